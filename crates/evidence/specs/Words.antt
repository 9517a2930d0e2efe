-- Which files a search is to write.
use Rattle.std.specs.Prelude.{◌≡◌, ◌++◌, IfSome, codes, false}
use Rattle.command_line.specs.declared.words.Request.{Request}
use Rattle.command_line.specs.declared.words.Request.TheVariants.{Solve, Limit, Margin}
use Rattle.command_line.specs.Names.{is_rooted}

-- the certificate isn't written to the instance's file, of which the name is given again with `./` before it
abbrev pub SparesInstance : Request → Type 0
SparesInstance (Solve search) =
    IfSome search.certificate (λ file. is_rooted search.instance.now ≡ false → file.now ≡ codes "./" ++ search.instance.now → ⊥)
SparesInstance (Limit limit) =
    IfSome limit.question.certificate (λ file. is_rooted limit.question.instance.now ≡ false → file.now ≡ codes "./" ++ limit.question.instance.now → ⊥)
SparesInstance (Margin margin) =
    IfSome margin.question.certificate (λ file. is_rooted margin.question.instance.now ≡ false → file.now ≡ codes "./" ++ margin.question.instance.now → ⊥)
SparesInstance _ = Unit {0}

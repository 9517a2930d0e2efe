use Rattle.std.proofs.Common.{◌≡◌, ℕ, List, Some, map}
use Rattle.plan_commands.proofs.Ends.{no_instance_of_reader, refused_of_readers, told_of_readers}
use Rattle.plan_commands.proofs.join.run.join_run.Goals as goal

-- there is no instance
pub returns-in-Err-clause-answer : goal.returns-in-Err-clause-answer
returns-in-Err-clause-answer g c =
    let have = λ (texts : List (List ℕ)). map g.C.Read.remaining c.args.certificates.now ≡ map Some texts in
    no_instance_of_reader have (g.I.Read.remaining c.args.instance.now) (g.S.Write.contents c.args.joined.now) (g.W.Write.contents c.args.out.now)
    c.in-Err.fault c.in-Err.ensures.judged

-- certificates are joined
pub returns-in-Ok-read_join-clause-answer : goal.returns-in-Ok-read_join-clause-answer
returns-in-Ok-read_join-clause-answer g c =
    let have = λ (texts : List (List ℕ)). map g.C.Read.remaining c.args.certificates.now ≡ map Some texts in
    told_of_readers have (g.I.Read.remaining c.args.instance.now) (g.S.Write.contents c.args.joined.now) (g.S.Write.contents c.tell.new.joined)
    (g.W.Write.contents c.args.out.now) (g.W.Write.contents c.tell.new.out) c.in-Ok.instance c.in-Ok-read_join.cert c.tell.result
    c.in-Ok.ensures.judged c.in-Ok-read_join.ensures.joined c.tell.ensures

-- one of them is refused
pub returns-clause-answer : goal.returns-clause-answer
returns-clause-answer g c =
    let have = λ (texts : List (List ℕ)). map g.C.Read.remaining c.args.certificates.now ≡ map Some texts in
    refused_of_readers have (g.I.Read.remaining c.args.instance.now) (g.S.Write.contents c.args.joined.now) (g.W.Write.contents c.args.out.now)
    c.in-Ok.instance c.in-Err-read_join.end c.in-Ok.ensures.judged c.in-Err-read_join.ensures.joined

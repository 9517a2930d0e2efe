use Rattle.std.proofs.Common.{inl}
use Rattle.question_commands.proofs.why.write_behind.Goals as goal

pub returns-in-Ok : goal.returns-in-Ok
returns-in-Ok g c = inl (record { files = c.in-Ok.files; texts = c.in-Ok.ensures; written = c.write_files.ensures })

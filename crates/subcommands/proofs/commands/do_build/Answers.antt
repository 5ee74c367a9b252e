use Rattle.std.proofs.Common.{inl}
use Rattle.subcommands.proofs.Building.{built_file, read_file, told_file}
use Rattle.subcommands.proofs.commands.do_build.Goals as goal

pub returns-in-Ok-clause-file : goal.returns-in-Ok-clause-file
returns-in-Ok-clause-file g c = λ d e did. built_file _ c.in-Ok.image d _ _ _ _ (c.in-Ok.ensures.built d e did) c.end_with_made.ensures.file

pub returns-in-Ok-clause-told : goal.returns-in-Ok-clause-told
returns-in-Ok-clause-told g c = λ fine. told_file c.in-Ok.image _ _ _ (c.end_with_made.ensures.told fine)

pub returns-in-Ok-clause-device : goal.returns-in-Ok-clause-device
returns-in-Ok-clause-device g c = λ d e did. inl (c.in-Ok.image, c.in-Ok.ensures.built d e did)

pub returns-in-Ok-clause-read : goal.returns-in-Ok-clause-read
returns-in-Ok-clause-read g c = read_file _ _ _ _ c.in-Ok.image _ _ _ c.in-Ok.ensures.read c.end_with_made.ensures.file

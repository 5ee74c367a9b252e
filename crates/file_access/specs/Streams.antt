-- Files and standard streams.
use Rattle.std.specs.Prelude.{pos, ◌<ℤ◌}
use Rattle.std.specs.Fd.{file_raw_fd}
use Rattle.std.specs.declared.fs.File.{File}

-- the file takes the place of no standard stream: these have the numbers 0, 1 and 2
abbrev pub IsApart : File → Type 0
IsApart file = pos 2 <ℤ file_raw_fd file

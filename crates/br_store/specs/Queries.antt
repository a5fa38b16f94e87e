-- The query that several calls make.
use Rattle.std.specs.Prelude.{ℕ, List, codes}

-- all files with the fronts of their paths, in order of FileId
abbrev pub select_files : List ℕ
select_files = codes "SELECT File.JobId, File.FileIndex, Path.Path, File.Filename, File.LStat, File.MD5 FROM File JOIN Path ON Path.PathId = File.PathId ORDER BY File.FileId"

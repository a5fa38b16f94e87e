-- The numbers of a row that can't be read.
use Rattle.std.proofs.Common.{◌≡◌, ℕ, pos, List, [], Err, sym, ap, ◌∙◌}
use Rattle.std.specs.Result.{result_unwrap_or}
use Rattle.br_model.specs.Attribute.{Stat, stat_from, read_stat}
use Rattle.br_model.specs.Job.{FileRow}
use Rattle.br_model.specs.View.{row_stat}

no_stat : (f : FileRow) (text : List ℕ) (e : ℕ) → text ≡ f.lstat → read_stat text ≡ Err e → stat_from [] ≡ row_stat f
no_stat f text e at refused = sym (ap (λ r. result_unwrap_or r (stat_from [])) (ap read_stat (sym at) ∙ refused))

-- the size is zero
pub no_size : (f : FileRow) (text : List ℕ) (e : ℕ) → text ≡ f.lstat → read_stat text ≡ Err e → pos 0 ≡ (row_stat f).size
unfolding stat_from
no_size f text e at refused = ap (λ (s : Stat). s.size) (no_stat f text e at refused)

-- the index of the file that a hard link names is zero
pub no_link : (f : FileRow) (text : List ℕ) (e : ℕ) → text ≡ f.lstat → read_stat text ≡ Err e → pos 0 ≡ (row_stat f).link_index
unfolding stat_from
no_link f text e at refused = ap (λ (s : Stat). s.link_index) (no_stat f text e at refused)

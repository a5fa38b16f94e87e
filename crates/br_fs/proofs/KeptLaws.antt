-- Files that are kept in another form.
use Rattle.std.proofs.Common.{◌≡◌, ℕ, Bool, true, false, cond, Option, Some, option_map, List, [], ◌∷◌, map, refl, ap, sym, ◌∙◌}
use Rattle.std.specs.Prelude.{Vec}
use Rattle.std.specs.Prelude.{bytes_eq}
use Rattle.std.specs.List.{find}
use Rattle.br_model.specs.Volume.{Volume, volume_bytes}
use Rattle.br_fs.specs.Memory.{kept_files}

first_kept : {X : Type 0} (bytes : X → List ℕ) (b : Bool) (x : X) (v : Volume) (found : Option Volume) (kept : Option X) → v.bytes ≡ bytes x
    → option_map (λ (w : Volume). w.bytes) found ≡ option_map bytes kept
    → option_map (λ (w : Volume). w.bytes) (cond b (Some v) found) ≡ option_map bytes (cond b (Some x) kept)
first_kept bytes true x v found kept one more = rw one refl
first_kept bytes false x v found kept one more = more

-- a look-up among the files is one among the kept
pub bytes_of_kept : {X : Type 0} (name bytes : X → List ℕ) (xs : List X) (n : List ℕ)
    → volume_bytes (map (λ x. record { name = name x; bytes = bytes x }) xs) n ≡ option_map bytes (find (λ x. bytes_eq (name x) n) xs)
unfolding volume_bytes
bytes_of_kept name bytes [] n = refl
bytes_of_kept name bytes (x ∷ xs) n =
    first_kept bytes (bytes_eq (name x) n) x (record { name = name x; bytes = bytes x }) _ _ refl (bytes_of_kept name bytes xs n)

-- the first at a path that is kept has the file's bytes
pub found_kept : {A : Type 0} (kept : List (List ℕ × Vec ℕ A)) (n : List ℕ) (found : Option (List ℕ × Vec ℕ A))
    → found ≡ find (λ v. bytes_eq v.0 n) kept → option_map (λ v. v.1.items) found ≡ volume_bytes (kept_files kept) n
found_kept kept n found e = ap (option_map (λ v. v.1.items)) e ∙ sym (bytes_of_kept (λ v. v.0) (λ v. v.1.items) kept n)

use Rattle.std.proofs.Common.{◌≡◌, ◌∙◌, ap, true, false, not, sym}
use Rattle.br_model.specs.Name.{is_directory}
use Rattle.br_types.specs.Conflicts.{has_path}
use Rattle.br_types.proofs.PathConflictLaws.{free_is}
use Rattle.br_types.proofs.conflicts.Ways.is_free.Goals as goal

pub returns-then-is_directory_path : goal.returns-then-is_directory_path
returns-then-is_directory_path c = λ paths noted.
    let f = free_is (has_path (λ k. k.now) c.args.self.now.files) (has_path (λ k. k.now) c.args.self.now.folders) paths c.args.path.now c.is_in_file.result noted c.is_in_file.ensures.none c.is_in_file.ensures.one in
    let folder : is_directory c.args.path.now ≡ true = sym c.is_directory_path.ensures ∙ c.if-is_directory_path.true in
    let g = rw (c.if-not-is_in_file.true, folder) at f in
    c.if-is_directory_path.true ∙ g

pub returns-else-is_directory_path : goal.returns-else-is_directory_path
returns-else-is_directory_path c = λ paths noted.
    let f = free_is (has_path (λ k. k.now) c.args.self.now.files) (has_path (λ k. k.now) c.args.self.now.folders) paths c.args.path.now c.is_in_file.result noted c.is_in_file.ensures.none c.is_in_file.ensures.one in
    let folder : is_directory c.args.path.now ≡ false = sym c.is_directory_path.ensures ∙ c.if-is_directory_path.false in
    let g = rw (c.if-not-is_in_file.true, folder) at f in
    ap not c.contains.ensures ∙ g

pub returns-else-not-is_in_file : goal.returns-else-not-is_in_file
returns-else-not-is_in_file c = λ paths noted.
    let f = free_is (has_path (λ k. k.now) c.args.self.now.files) (has_path (λ k. k.now) c.args.self.now.folders) paths c.args.path.now c.is_in_file.result noted c.is_in_file.ensures.none c.is_in_file.ensures.one in
    let g = rw c.if-not-is_in_file.false at f in
    ap not c.if-not-is_in_file.false ∙ g

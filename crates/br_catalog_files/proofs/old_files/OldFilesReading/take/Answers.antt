use Rattle.std.proofs.Common.{rules, ℤ, SFits, w64, sym, ap, subst, ◌∙◌}
use Rattle.std.proofs.lemmas.Int.{to_z-of_z}
use Rattle.sqlite.specs.declared.types.Value.TheVariants.{Int}
use Rattle.br_store.specs.Held.{name_at}
use Rattle.br_catalog_files.proofs.MovedLaws.{moved_is}
use Rattle.br_catalog_files.proofs.TakenLaws.{taken}
use Rattle.br_catalog_files.proofs.old_files.OldFilesReading.take.Goals as goal
use Rattle.std.proofs.lemmas.Result.{err_from_is_err_and}
use Rattle.br_catalog_files.specs.Refusals.{CanGive}
use Rattle.br_catalog_files.proofs.TakeLaws.{gives_front, gives_rest, is_fresh, is_known, is_whole, shows, typed_of}

pub returns-clause-whole : goal.returns-clause-whole
returns-clause-whole c = λ jobs ps ns rows paths names up_paths up_names w.
    let file = c.in-Some.file in
    let path : SFits w64 file.numbers.path = search rules in
    let name : SFits w64 file.numbers.name = search rules in
    taken jobs c.args.self.now.seen c.note.new.seen ps ns rows c.args.row.now file c.in_ok-front.front.now c.in_ok-rest.rest.now c.in-Some.ensures.values
    (c.in_ok-front.ensures.blob ps paths up_paths ∙ ap (λ (z : ℤ). name_at ps (Int z)) (to_z-of_z w64 file.numbers.path path))
    (c.in_ok-rest.ensures.blob ns names up_names ∙ ap (λ (z : ℤ). name_at ns (Int z)) (to_z-of_z w64 file.numbers.name name)) c.in_ok-check_file.ensures.whole c.note.ensures.fits c.in_ok-note.ensures.saw w

pub returns-clause-moved : goal.returns-clause-moved
returns-clause-moved c = λ ns names up.
    let file = c.in-Some.file in
    let name : SFits w64 file.numbers.name = search rules in
    moved_is ns c.args.row.now file c.in_ok-rest.rest.now c.in-Some.ensures.values (c.in_ok-rest.ensures.blob ns names up ∙ ap (λ (z : ℤ). name_at ns (Int z)) (to_z-of_z w64 file.numbers.name name))

pub returns-in_err-front-clause-other : goal.returns-in_err-front-clause-other
returns-in_err-front-clause-other c = λ t.
    let file = c.in-Some.file in
    let paths = c.args.paths.now in
    let path : SFits w64 file.numbers.path = search rules in
    let bytes = (shows paths c.args.names.now c.args.self.now.seen c.args.row.now t).front in
    let given = gives_front paths c.args.names.now c.args.self.now.seen c.args.row.now t file c.in-Some.ensures.values in
    let p = err_from_is_err_and c.from_residual.result c.from_residual.ensures.1 in
    rw (p.1, p.2) (c.in_err-front.ensures.other bytes (subst (λ (z : ℤ). CanGive paths (Int z) bytes) (sym (to_z-of_z w64 file.numbers.path path)) given))

pub returns-in_err-rest-clause-other : goal.returns-in_err-rest-clause-other
returns-in_err-rest-clause-other c = λ t.
    let file = c.in-Some.file in
    let names = c.args.names.now in
    let name : SFits w64 file.numbers.name = search rules in
    let bytes = (shows c.args.paths.now names c.args.self.now.seen c.args.row.now t).rest in
    let given = gives_rest c.args.paths.now names c.args.self.now.seen c.args.row.now t file c.in-Some.ensures.values in
    let p = err_from_is_err_and c.from_residual-in_err-rest.result c.from_residual-in_err-rest.ensures.1 in
    rw (p.1, p.2) (c.in_err-rest.ensures.other bytes (subst (λ (z : ℤ). CanGive names (Int z) bytes) (sym (to_z-of_z w64 file.numbers.name name)) given))

pub returns-in_err-check_file-clause-other : goal.returns-in_err-check_file-clause-other
returns-in_err-check_file-clause-other c = λ t.
    let file = c.in-Some.file in
    let path : SFits w64 file.numbers.path = search rules in
    let name : SFits w64 file.numbers.name = search rules in
    let p = err_from_is_err_and c.from_residual-in_err-check_file.result c.from_residual-in_err-check_file.ensures.1 in
    rw (p.1, p.2) (c.in_err-check_file.ensures.other (is_whole c.args.paths.now c.args.names.now c.args.self.now.seen c.args.row.now t file c.in-Some.ensures.values c.in_ok-front.front.now c.in_ok-rest.rest.now
    (c.in_ok-front.ensures.blob t.ps t.paths_are t.paths_sorted ∙ ap (λ (z : ℤ). name_at t.ps (Int z)) (to_z-of_z w64 file.numbers.path path))
    (c.in_ok-rest.ensures.blob t.ns t.names_are t.names_sorted ∙ ap (λ (z : ℤ). name_at t.ns (Int z)) (to_z-of_z w64 file.numbers.name name))))

pub returns-in_err-note-clause-other : goal.returns-in_err-note-clause-other
returns-in_err-note-clause-other c = λ t.
    let file = c.in-Some.file in
    let paths = c.args.paths.now in
    let names = c.args.names.now in
    let seen = c.args.self.now.seen in
    let p = err_from_is_err_and c.from_residual-in_err-note.result c.from_residual-in_err-note.ensures.1 in
    rw (p.1, p.2) (c.in_err-note.ensures.other (is_known paths names seen c.args.row.now t file c.in-Some.ensures.values) (is_fresh paths names seen c.args.row.now t file c.in-Some.ensures.values))

pub returns-in_default-clause-other : goal.returns-in_default-clause-other
returns-in_default-clause-other c = λ t. search (rules, typed_of c.args.paths.now c.args.names.now c.args.self.now.seen c.args.row.now t)

use Rattle.std.proofs.Common.{◌≡◌, ℕ, List, ◌++◌, Some, None, Result, Ok, Err, OnOk, OnErr, cond}
use Rattle.std.specs.Prelude.{position, bytes_eq, is_ok}
use Rattle.br_fs.proofs.PlaceLaws.{longer_where_found, made_at_end, same_where_set}
use Rattle.br_volume.proofs.mem_store.append_to.Goals as goal

-- whether bytes were appended to others
where_longer : {E P : Type 0} (r : Result (Unit {0}) E) (now before more : List ℕ)
    → now ≡ cond (is_ok r) (before ++ more) before → (now ≡ before ++ more → P) → OnOk r P
where_longer (Ok u) now before more e f = f e
where_longer (Err e) now before more h f = tt

where_same : {E P : Type 0} (r : Result (Unit {0}) E) (now before more : List ℕ)
    → now ≡ cond (is_ok r) (before ++ more) before → (now ≡ before → P) → OnErr r P
where_same (Ok u) now before more e f = tt
where_same (Err e) now before more h f = f h

pub returns-in-Some-clause-ok : goal.returns-in-Some-clause-ok
returns-in-Some-clause-ok c =
    let found : Some c.in-Some.at ≡ position (λ v. bytes_eq v.0 c.args.vol.now) c.args.volumes.now.items = cc in
    where_longer c.extend_from_slice.result c.extend_from_slice.new.self.items c.index_mut.result.now.1.items c.args.bytes.now c.extend_from_slice.ensures.items
    (λ long. longer_where_found c.args.vol.now c.args.bytes.now c.args.volumes.now.items c.in-Some.at c.index_mut.result.now c.extend_from_slice.new.self found c.index_mut.ensures.value long)

pub returns-in-Some-clause-err : goal.returns-in-Some-clause-err
returns-in-Some-clause-err c =
    where_same c.extend_from_slice.result c.extend_from_slice.new.self.items c.index_mut.result.now.1.items c.args.bytes.now c.extend_from_slice.ensures.items
    (λ same. same_where_set c.args.volumes.now.items c.in-Some.at c.index_mut.result.now c.extend_from_slice.new.self c.index_mut.ensures.value same)

pub returns-in_ok-push-in-None-clause-ok : goal.returns-in_ok-push-in-None-clause-ok
returns-in_ok-push-in-None-clause-ok c =
    let none : None ≡ position (λ v. bytes_eq v.0 c.args.vol.now) c.args.volumes.now.items = cc in
    rw c.in_ok-push-in-None.ensures.items
    (made_at_end c.args.vol.now c.args.bytes.now c.args.volumes.now.items (c.in_ok-copy-in-None.field-0, c.in_ok-from_slice-in-None.field-0) none c.in_ok-copy-in-None.ensures c.in_ok-from_slice-in-None.ensures.items)

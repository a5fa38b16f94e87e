use Rattle.std.proofs.Common.{Option, drop, ap, sym, subst, ◌∙◌}
use Rattle.std.specs.Prelude.{IfSome}
use Rattle.std.specs.Option.{option_copied}
use Rattle.br_join.specs.Front.{IsFrontOf}
use Rattle.br_join.specs.declared.front.Front.{Front}
use Rattle.br_reread_files.specs.FileHits.{count_of, unread}
use Rattle.br_reread_files.proofs.FileHitsLaws.{drop_none}
use Rattle.br_reread_files.proofs.file_hits.FileHits.unread.Goals as goal

pub rest_of-requires : goal.rest_of-requires
rest_of-requires c = subst (λ (o : Option Front). IfSome o (λ front. IsFrontOf front c.self.inside.hits.now)) (ap option_copied c.in-Some.is) c.self.invariant

pub returns-in-Some : goal.returns-in-Some
returns-in-Some c =
    c.rest_of.ensures ∙ ap (λ (o : Option Front). drop (count_of o) c.self.inside.hits.now) (sym (ap option_copied c.in-Some.is)) ∙ ap unread c.self.view_is

pub returns-in-None : goal.returns-in-None
returns-in-None c =
    drop_none c.self.inside.hits.now ∙ ap (λ (o : Option Front). drop (count_of o) c.self.inside.hits.now) (sym (ap option_copied c.in-None.is)) ∙ ap unread c.self.view_is

-- What was gathered, as data: it has a code that tells its values apart.
use Rattle.std.specs.Prelude.{List, Option, refl}
use Rattle.std.specs.Coded.{Coded, code_by, coded×, coded_ℕ, coded_list, coded_option}
use Rattle.std.specs.FinMap.{code}
use Rattle.br_types.specs.Key.{coded_key}
use Rattle.br_model.specs.Block.{Fragment}
use Rattle.br_model.specs.Meaning.{Hit, Spot}
use Rattle.br_model.specs.Name.{FileKey}
use Rattle.br_model.specs.Restored.{Names}
use Rattle.br_join.specs.Code.{coded_fragment, coded_spot}
use Rattle.br_reread_files.specs.Gathered.{Gathered}

abbrev pub coded_hit : Coded Hit
coded_hit =
    code_by (FileKey × (Spot × Fragment)) (coded× coded_key (coded× coded_spot coded_fragment)) (λ h. (h.key, (h.spot, h.fragment)))
    (λ p. record { key = p.0; spot = p.1.0; fragment = p.1.1 }) (λ _. refl)

abbrev pub coded_gathered : Coded Gathered
coded_gathered =
    code_by (List Hit × Option Names) (coded× (coded_list coded_hit) (coded_option (code coded_key (coded_list coded_ℕ)))) (λ g. (g.hits, g.names))
    (λ p. record { hits = p.0; names = p.1 }) (λ _. refl)

-- That no caches meet the law of a front-end, and what holds of the allocator then.
use Rattle.std.specs.Prelude.{List}
use Rattle.tc_units.specs.declared.spans.ClassRow.{ClassRow}
use Rattle.tc_model.specs.Input.{Asked}
use Rattle.alloc_rules.specs.FrontLaw.{IsNotOwn, IsLawful}
use Rattle.alloc_rules.specs.Law.{HoldsAfter, AreLawful}
use Rattle.alloc_rules.specs.Valid.{IsValid}
use Rattle.no_caches.specs.NoCaches.{no_caches, about_none, Holds, fits}

abbrev pub AreNoCachesLawful : Type 0
AreNoCachesLawful = (rows : List ClassRow) → IsLawful (no_caches rows) about_none IsNotOwn Holds fits

abbrev pub InEveryOrder : Type 0
InEveryOrder = (rows : List ClassRow) (asked : Asked) → IsValid rows IsNotOwn asked → AreLawful (no_caches rows) about_none asked fits (HoldsAfter (no_caches rows) about_none Holds asked)

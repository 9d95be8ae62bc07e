-- The codes by which a proof tells objects and containers apart.
use Rattle.std.specs.Prelude.{ℕ, List, Option, refl}
use Rattle.std.specs.Coded.{Coded, code_by, coded×, coded_ℕ, coded_list, coded_option}
use Rattle.std.specs.FinMap as map
use Rattle.gate_base.specs.Maps.{Names}
use Rattle.swift_calls.specs.Account.{SwiftObject, SwiftContainer}
use Rattle.swift_calls.specs.declared.account.ReadList.{ReadList}
use Rattle.swift_calls.specs.declared.account.Content.{Content}
use Rattle.swift_calls.specs.contracts.account.ReadList as readers
use Rattle.swift_calls.specs.contracts.account.Content as content

abbrev pub object_code : Coded SwiftObject
object_code = code_by (List ℕ × (List (List ℕ) × Content))
    (coded× (coded_list coded_ℕ) (coded× (coded_list (coded_list coded_ℕ)) content.the_row.coded))
    (λ o. (o.content_type, (o.meta, o.content)))
    (λ p. record { content_type = p.0; meta = p.1.0; content = p.1.1 }) (λ _. refl)

abbrev pub container_code : Coded SwiftContainer
container_code = code_by (ReadList × (Option ℕ × Names SwiftObject))
    (coded× readers.the_row.coded (coded× (coded_option coded_ℕ) (map.code (coded_list coded_ℕ) object_code)))
    (λ c. (c.readers, (c.created, c.files)))
    (λ p. record { readers = p.0; created = p.1.0; files = p.1.1 }) (λ _. refl)

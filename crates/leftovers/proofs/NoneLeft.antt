-- Where no name passes, no file does.
use Rattle.std.specs.Prelude.{◌≡◌, ℕ, Bool, List, [], length}
use Rattle.std.proofs.Common.{sym, ap, ◌∙◌}
use Rattle.std.proofs.lemmas.List.{length-map}
use Rattle.gate_base.specs.Maps.{Names}
use Rattle.swift_calls.specs.Account.{SwiftObject}
use Rattle.leftovers.specs.Sweeping.{passing, names_passing}

pub none_length : (test : List ℕ → Bool) (fs : Names SwiftObject) → names_passing test fs ≡ [] → length (passing test fs) ≡ 0
none_length test fs none = sym (length-map (passing test fs) (λ e. e.0)) ∙ ap length none

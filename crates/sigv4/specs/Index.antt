-- The places of the keys of a list, by their ids.
use Rattle.std.specs.Prelude.{◌≡◌, ℕ, ◌<◌, Bool, List, length, find, slice_get, Option, Some, None}
use Rattle.std.specs.Global.{Vec}
use Rattle.std.specs.BTreeMap.{BTreeMap, get_by}
use Rattle.std.specs.Cmp.Lexicographic.{slice_cmp}
use Rattle.std.specs.Ordering.{nat_cmp}
use Rattle.sigv4.specs.declared.keys.AccessKey.{AccessKey}
use Rattle.sigv4.specs.Keys.{has_id}

-- the place that stands under an id
abbrev pub place_of : BTreeMap (Vec ℕ) ℕ → List ℕ → Option ℕ
place_of places id = get_by (λ key. slice_cmp nat_cmp id key.items) places

-- the place is that of the key that passes the test, and there is none exactly where no key passes it
abbrev pub LeadsTo : (AccessKey → Bool) → List AccessKey → Option ℕ → Type 0
LeadsTo test keys None = find test keys ≡ None
LeadsTo test keys (Some at) = (at < length keys) × (find test keys ≡ slice_get keys at)

-- each id leads to its key
abbrev pub Finds : BTreeMap (Vec ℕ) ℕ → List AccessKey → Type 0
Finds places keys = (id : List ℕ) → LeadsTo (has_id id) keys (place_of places id)

-- The names of the files of a container.
use Rattle.std.specs.Prelude.{◌≡◌, ℕ, List, [], ◌∷◌, map}
use Rattle.std.specs.FinMap.{entries, keys}
use Rattle.std.proofs.Common.{refl, ap, ◌∙◌}
use Rattle.s3_machine.specs.Items.{with_prefix}
use Rattle.swift_calls.specs.Account.{SwiftAccount, SwiftObject, files}
use Rattle.list_pages.specs.Listing.{name_in}
use Rattle.upload_records.specs.Consistent.{IsConsistent}
use Rattle.account_calls.specs.FilePages.{item_at}
use Rattle.account_calls.proofs.lemmas.Removal.{all_after_none, all_behind}
use Rattle.leftovers.specs.Gathering.{names_after}

pub names_of : (rows : List (List ℕ × SwiftObject)) → map name_in (map item_at rows) ≡ map (λ e. e.0) rows
names_of [] = refl
names_of (e ∷ rows) = ap (λ l. e.0 ∷ l) (names_of rows)

pub no_prefix : (es : List (List ℕ × SwiftObject)) → with_prefix [] es ≡ es
no_prefix [] = refl
no_prefix (e ∷ es) = ap (λ l. e ∷ l) (no_prefix es)

-- all names come after the empty marker
pub all_names : (tree : SwiftAccount) (folder : List ℕ) → IsConsistent tree → names_after folder [] tree ≡ keys (files tree folder)
all_names tree folder sound = ap (map (λ e. e.0)) (all_behind [] (with_prefix [] (entries (files tree folder))) (all_after_none tree folder [] sound) ∙ no_prefix (entries (files tree folder)))

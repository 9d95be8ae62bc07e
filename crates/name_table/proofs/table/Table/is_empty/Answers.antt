use Rattle.std.proofs.Common.{◌≡◌, Bool, true, false, ◌↔◌, IsTrue, ℕ, zero, suc, nat_eq, refl, sym, ap, ◌∙◌, true≢false}
use Rattle.std.proofs.Math.Dec.{eqb-suc-zero}
use Rattle.std.specs.FinMap.{len}
use Rattle.name_table.proofs.lemmas.Ordered.{none_where_none}
use Rattle.name_table.proofs.table.Table.is_empty.Goals as goal

test_is : (t : Bool) (n : ℕ) → IsTrue t ↔ (n ≡ 0) → t ≡ nat_eq n 0
test_is true zero h = refl
test_is true (suc n) h = let none : suc n ≡ 0 = h.0 refl in cc
test_is false zero h = absurd (true≢false (sym (h.1 refl)))
test_is false (suc n) h = sym (eqb-suc-zero n)

pub returns : goal.returns
returns g c = test_is _ _ c.is_empty.ensures ∙ sym (none_where_none c.self.inside.entries.entries) ∙ ap (λ m. nat_eq (len m) 0) c.self.view_is

-- Before the first key, and texts that don't come after the marker.
use Rattle.std.proofs.Common.{◌≡◌, ℕ, false, List, [], ◌∷◌, ◌++◌, length, take, Option, refl, sym, ◌∙◌, ap, subst, arith, nat_lt, zero, suc}
use Rattle.std.proofs.lemmas.List.{append-nil}
use Rattle.std.proofs.lemmas.Bool.{le-ltb}
use Rattle.std.specs.declared.cmp.Ordering.{Ordering}
use Rattle.std.specs.declared.cmp.Ordering.TheVariants.{Less, Equal, Greater}
use Rattle.std.specs.Ordering.{is_lt, is_gt, ordering_reverse}
use Rattle.std.specs.Cmp.Lexicographic.{nat_list_cmp_total}
use Rattle.std.specs.FinMap.{entries, from_entries, slice_cmp-IsAntisymmetric, nat_cmp-IsAntisymmetric}
use Rattle.gate_base.specs.Maps.{name_cmp}
use Rattle.s3_machine.specs.Items.{behind, row_of}
use Rattle.list_pages.specs.Rolling.{Wanted}
use Rattle.list_pages.specs.Rolling.{UpTo, AllUpTo, Rolled}
use Rattle.list_pages.proofs.lemmas.Rising.{upto_longer, short, short_front}
use Rattle.list_pages.proofs.lemmas.Rolling.{fronted}
use Rattle.list_pages.proofs.lemmas.PickedEntries.{entries_rising}

pub no_rows : (X : Type 0) → let none : List (List ℕ × X) = [] in entries (from_entries {R = name_cmp} none) ≡ none
no_rows X = entries_rising nat_list_cmp_total (slice_cmp-IsAntisymmetric nat_cmp-IsAntisymmetric) [] tt

take_none : (X : Type 0) (n : ℕ) → let none : List X = [] in take n none ≡ none
take_none X zero = refl
take_none X (suc n) = refl

-- before any key
pub rolled_none : (H : Type 0) (w : Wanted) → Rolled {H = H} w [] false []
rolled_none H w = record {
  rows = sym (ap (λ l. take w.max (behind w.marker l)) (no_rows (Option H)) ∙ take_none (List ℕ × Option H) w.max);
  over = sym (ap (λ l. nat_lt w.max (length (behind w.marker l))) (no_rows (Option H)) ∙ le-ltb w.max 0 (omega arith));
  top = λ rest h before. subst (λ l. AllUpTo (row_of w.prefix w.delimiter (w.prefix ++ rest, h)).0 l) (sym (no_rows (Option H))) tt;
}

-- a text is up to its key
pub fronted_upto : (d x : List ℕ) → UpTo (fronted d x) x
fronted_upto [] x = subst (λ z. UpTo x z) (append-nil x) (upto_longer x [])
fronted_upto (c ∷ d) x = let q = short_front (c ∷ d) x in subst (λ z. UpTo (short (c ∷ d) x) z) (sym q.1) (upto_longer (short (c ∷ d) x) q.0)

turned : (o u : Ordering) → u ≡ ordering_reverse o → is_lt o ≡ is_gt u
turned Less u e = ap is_gt (sym e)
turned Equal u e = ap is_gt (sym e)
turned Greater u e = ap is_gt (sym e)

-- not behind is up to
pub not_behind : (m t : List ℕ) → is_lt (name_cmp m t) ≡ is_gt (name_cmp t m)
not_behind m t = turned (name_cmp m t) (name_cmp t m) (nat_list_cmp_total.antisymm t m)

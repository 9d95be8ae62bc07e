-- Strictly ascending names are determined by which names are among them.
use Rattle.std.proofs.Common.{◌≡◌, ℕ, Bool, true, false, ◌||◌, List, [], ◌∷◌, bytes_eq, inl, inr, refl, sym, ap, subst, ◌∙◌, true≢false}
use Rattle.std.specs.Cmp.{unsigned_ties}
use Rattle.std.specs.Cmp.Lexicographic.{lists_ties, nat_list_cmp_total}
use Rattle.std.specs.Ordering.{nat_cmp, is_lt, is_eq, ordering_reverse}
use Rattle.std.specs.declared.cmp.Ordering.{Ordering}
use Rattle.std.specs.declared.cmp.Ordering.TheVariants.{Less, Equal, Greater}
use Rattle.std.proofs.lemmas.Bool.{cases_Bool, and_parts, or_from, or_left}
use Rattle.std.proofs.lemmas.Slice.Eq.{bytes_eq-Decides}
use Rattle.gate_base.specs.Maps.{name_cmp}
use Rattle.gate_base.proofs.lemmas.Maps.{name_antisymmetric}
use Rattle.sigv4.specs.Authorization.{signed_name_stands_before, are_ascending}
use Rattle.sigv4.specs.Verdict.{is_among}
use Rattle.sign_cmd.specs.Laws.{NamesOnce}

less_where : (o : Ordering) → is_lt o ≡ true → o ≡ Less
less_where Less h = refl
less_where Equal h = cc
less_where Greater h = cc

before_is_other : (a b : List ℕ) → is_lt (name_cmp a b) ≡ true → bytes_eq b a ≡ false
before_is_other a b h =
    lists_ties nat_cmp unsigned_ties b a ∙ ap is_eq (nat_list_cmp_total.antisymm b a ∙ ap ordering_reverse (less_where (name_cmp a b) h))

before_tail : (name next : List ℕ) (names : List (List ℕ)) → is_lt (name_cmp name next) ≡ true → signed_name_stands_before next names ≡ true → signed_name_stands_before name names ≡ true
before_tail name next [] h k = refl
before_tail name next (third ∷ names) h k = ap is_lt (nat_list_cmp_total.trans name next third (less_where (name_cmp name next) h) (less_where (name_cmp next third) k))

ascending_parts : (name : List ℕ) (names : List (List ℕ)) → are_ascending (name ∷ names) ≡ true → (signed_name_stands_before name names ≡ true) × (are_ascending names ≡ true)
unfolding are_ascending
ascending_parts name names h = and_parts (signed_name_stands_before name names) (are_ascending names) h

-- a name that stands before the first isn't among ascending names
not_among : (name : List ℕ) (names : List (List ℕ)) → signed_name_stands_before name names ≡ true → are_ascending names ≡ true → is_among name names ≡ false
not_among name [] before ascending = refl
not_among name (next ∷ names) before ascending =
    let parts = ascending_parts next names ascending in
    or_from (bytes_eq next name) (is_among name names) (before_is_other name next before)
    (not_among name names (before_tail name next names before parts.0) parts.1)

is_first : (name : List ℕ) (names : List (List ℕ)) → is_among name (name ∷ names) ≡ true
is_first name names = or_left (bytes_eq name name) (is_among name names) ((bytes_eq-Decides name name).1 refl)

-- a name that is among the one and not among the other
differ : (a b : Bool) → a ≡ true → b ≡ false → a ≡ b → ⊥
differ a b h k e = true≢false (sym h ∙ e ∙ k)

-- where two lists begin with one name, the same names are among what follows it
same_behind : (first other : List ℕ) (names others : List (List ℕ)) → first ≡ other → are_ascending (first ∷ names) ≡ true → are_ascending (other ∷ others) ≡ true → (name : List ℕ) → is_among name (first ∷ names) ≡ is_among name (other ∷ others) → is_among name names ≡ is_among name others
same_behind first other names others is ascending also name same =
    let parts = ascending_parts first names ascending in
    let others_parts = ascending_parts other others also in
    elim (cases_Bool (bytes_eq first name)) [
      | inl e ↦
          let named : first ≡ name = (bytes_eq-Decides first name).0 e in
          subst (λ (x : List ℕ). is_among x names ≡ false) named (not_among first names parts.0 parts.1)
          ∙ sym (subst (λ (x : List ℕ). is_among x others ≡ false) (sym is ∙ named) (not_among other others others_parts.0 others_parts.1))
      | inr e ↦
          let also_off : bytes_eq other name ≡ false = subst (λ (x : List ℕ). bytes_eq x name ≡ false) is e in
          ap (λ b. b || is_among name names) (sym e) ∙ same ∙ ap (λ b. b || is_among name others) also_off
    ]

determined : (names others : List (List ℕ)) → are_ascending names ≡ true → are_ascending others ≡ true → ((name : List ℕ) → is_among name names ≡ is_among name others) → others ≡ names
determined [] [] ascending also same = refl
determined [] (other ∷ others) ascending also same = absurd (differ (is_among other (other ∷ others)) false (is_first other others) refl (sym (same other)))
determined (name ∷ names) [] ascending also same = absurd (differ (is_among name (name ∷ names)) false (is_first name names) refl (same name))
determined (name ∷ names) (other ∷ others) ascending also same = elim (name_cmp name other) as (λ o. name_cmp name other ≡ o → (other ∷ others) ≡ (name ∷ names)) [
  | Less ↦ λ e. absurd (differ (is_among name (name ∷ names)) (is_among name (other ∷ others)) (is_first name names) (not_among name (other ∷ others) (ap is_lt e) also) (same name))
  | Equal ↦ λ e.
      let is : name ≡ other = name_antisymmetric name other e in
      let rest : others ≡ names = determined names others (ascending_parts name names ascending).1 (ascending_parts other others also).1 (λ x. same_behind name other names others is ascending also x (same x)) in
      (λ i. sym is i ∷ rest i)
  | Greater ↦ λ e. absurd (differ (is_among other (other ∷ others)) (is_among other (name ∷ names)) (is_first other others) (not_among other (name ∷ names) (ap is_lt (nat_list_cmp_total.antisymm other name ∙ ap ordering_reverse e)) ascending) (sym (same other)))
] refl

pub names_once : NamesOnce
names_once headers names others signed also =
    determined names others signed.ascending also.ascending (λ name. signed.all name ∙ sym (also.all name))

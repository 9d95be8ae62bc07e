-- One page after another, of keys that rise.
use Rattle.std.proofs.Common.{◌≡◌, ℕ, Bool, true, false, cond, not, ◌&&◌, List, [], ◌∷◌, ◌++◌, take, drop, refl, sym, ◌∙◌, ap, subst, T, append_assoc, inl, inr}
use Rattle.std.proofs.lemmas.List.{take-append-drop}
use Rattle.std.specs.List.{filter}
use Rattle.std.specs.declared.cmp.Ordering.{Ordering}
use Rattle.std.specs.declared.cmp.Ordering.TheVariants.{Less, Equal, Greater}
use Rattle.std.specs.Ordering.{is_lt}
use Rattle.std.specs.Cmp.Lexicographic.{nat_list_cmp_total}
use Rattle.std.specs.FinMap.{is_sorted}
use Rattle.std.specs.FinMap.Entries.{below_all}
use Rattle.gate_base.specs.Maps.{name_cmp}
use Rattle.list_pages.proofs.lemmas.Rising.{tells}
use Rattle.list_pages.proofs.lemmas.Pushing.{is_less}
use Rattle.list_pages.proofs.lemmas.Pages.{parts, told, not_below, not_itself, all_behind, below_one, behind_key}

both : (a b : Bool) → T a → T b → T (a && b)
both true b p q = q
both false b p q = absurd p

less_of : (o : Ordering) → is_lt o ≡ true → o ≡ Less
less_of Less h = refl
less_of Equal h = let k : false ≡ true = h in cc k
less_of Greater h = let k : false ≡ true = h in cc k

module _ {H : Type 0} where
  -- the keys up to a marker, and those behind it
  abbrev pub up_to : List ℕ → List (List ℕ × H) → List (List ℕ × H)
  up_to m ks = filter (λ x. not (is_lt (name_cmp m x.0))) ks

  abbrev pub behind_it : List ℕ → List (List ℕ × H) → List (List ℕ × H)
  behind_it m ks = filter (λ x. is_lt (name_cmp m x.0)) ks

  lower : (m n : List ℕ) (ks : List (List ℕ × H)) → is_lt (name_cmp m n) ≡ true → T (below_all name_cmp n ks) → T (below_all name_cmp m ks)
  lower m n [] h b = tt
  lower m n (x ∷ ks) h b =
      let p = parts (is_lt (name_cmp n x.0)) (below_all name_cmp n ks) b in
      let e = nat_list_cmp_total.trans m n x.0 (less_of (name_cmp m n) h) (is_less (name_cmp n x.0) p.0) in
      both (is_lt (name_cmp m x.0)) (below_all name_cmp m ks) (subst (λ o. T (is_lt o)) (sym e) tt) (lower m n ks h p.1)

  none_up_to : (m : List ℕ) (ks : List (List ℕ × H)) → T (below_all name_cmp m ks) → up_to m ks ≡ []
  none_up_to m [] b = refl
  none_up_to m (x ∷ ks) b =
      let p = parts (is_lt (name_cmp m x.0)) (below_all name_cmp m ks) b in
      ap (λ t. cond (not t) (x ∷ up_to m ks) (up_to m ks)) (told (is_lt (name_cmp m x.0)) p.0) ∙ none_up_to m ks p.1

  -- keys that rise are those up to a marker and then those behind it
  pub split_at_marker : (m : List ℕ) (ks : List (List ℕ × H)) → T (is_sorted name_cmp ks) → ks ≡ up_to m ks ++ behind_it m ks
  split_at_marker m [] s = refl
  split_at_marker m (x ∷ ks) s = let p = parts (below_all name_cmp x.0 ks) (is_sorted name_cmp ks) s in elim (tells (is_lt (name_cmp m x.0))) [
    | inl t ↦
        let b = lower m x.0 ks t p.0 in
        sym (ap (λ u. cond (not u) (x ∷ up_to m ks) (up_to m ks) ++ cond u (x ∷ behind_it m ks) (behind_it m ks)) t ∙ ap (λ l. l ++ (x ∷ behind_it m ks)) (none_up_to m ks b) ∙ ap (λ l. x ∷ l) (all_behind m ks b))
    | inr f ↦ sym (ap (λ u. cond (not u) (x ∷ up_to m ks) (up_to m ks) ++ cond u (x ∷ behind_it m ks) (behind_it m ks)) f ∙ ap (λ l. x ∷ l) (sym (split_at_marker m ks p.1)))
  ]

  -- up to a key of the list stand those before it and it
  pub up_to_key : (a b : List (List ℕ × H)) (e : List ℕ × H) → T (is_sorted name_cmp (a ++ e ∷ b)) → up_to e.0 (a ++ e ∷ b) ≡ a ++ e ∷ []
  up_to_key [] b e s =
      ap (λ u. cond (not u) (e ∷ up_to e.0 b) (up_to e.0 b)) (not_itself e.0) ∙ ap (λ l. e ∷ l) (none_up_to e.0 b (parts (below_all name_cmp e.0 b) (is_sorted name_cmp b) s).0)
  up_to_key (x ∷ a) b e s =
      let p = parts (below_all name_cmp x.0 (a ++ e ∷ b)) (is_sorted name_cmp (a ++ e ∷ b)) s in
      ap (λ u. cond (not u) (x ∷ up_to e.0 (a ++ e ∷ b)) (up_to e.0 (a ++ e ∷ b))) (not_below x.0 e.0 (below_one x.0 a b e p.0)) ∙ ap (λ l. x ∷ l) (up_to_key a b e p.1)

  -- a page, and what is left behind its last key
  pub page_turned : (m : List ℕ) (ks front : List (List ℕ × H)) (e : List ℕ × H) (n : ℕ) → T (is_sorted name_cmp ks) → take n (behind_it m ks) ≡ front ++ e ∷ [] → (behind_it e.0 ks ≡ drop n (behind_it m ks)) × (up_to e.0 ks ≡ up_to m ks ++ take n (behind_it m ks))
  page_turned m ks front e n s is =
      let cut : ks ≡ (up_to m ks ++ front) ++ e ∷ drop n (behind_it m ks) =
      split_at_marker m ks s ∙ ap (λ l. up_to m ks ++ l) (sym (take-append-drop n (behind_it m ks)) ∙ ap (λ l. l ++ drop n (behind_it m ks)) is ∙ append_assoc front (e ∷ []) (drop n (behind_it m ks))) ∙ sym (append_assoc (up_to m ks) front (e ∷ drop n (behind_it m ks))) in
      let sorted = subst (λ l. T (is_sorted name_cmp l)) cut s in (
        ap (behind_it e.0) cut ∙ behind_key (up_to m ks ++ front) (drop n (behind_it m ks)) e sorted,
        ap (up_to e.0) cut ∙ up_to_key (up_to m ks ++ front) (drop n (behind_it m ks)) e sorted ∙ append_assoc (up_to m ks) front (e ∷ []) ∙ ap (λ l. up_to m ks ++ l) (sym is),
      )

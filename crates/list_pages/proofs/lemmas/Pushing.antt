-- A row that comes behind all others, or again.
use Rattle.std.proofs.Common.{◌≡◌, ℕ, Bool, true, false, cond, ◌&&◌, List, [], ◌∷◌, ◌++◌, Option, Some, None, is_some, refl, sym, ◌∙◌, ap, subst, inl, inr, T}
use Rattle.std.proofs.lemmas.List.{append-nil}
use Rattle.std.specs.declared.cmp.Ordering.{Ordering}
use Rattle.std.specs.declared.cmp.Ordering.TheVariants.{Less, Equal, Greater}
use Rattle.std.specs.Ordering.{is_gt, is_lt, is_eq, eq_by_cmp, ordering_reverse}
use Rattle.std.specs.Cmp.{Equal-is, eq_by_cmp_equiv}
use Rattle.std.specs.Cmp.Lexicographic.{nat_list_cmp_total}
use Rattle.std.specs.FinMap.{entries, entries_sorted, from_entries, find, put, is_sorted, get-entries, get-from_entries, from_entries_push, entries-insert, same_map, slice_cmp-IsAntisymmetric, nat_cmp-IsAntisymmetric, IsAntisymmetric}
use Rattle.std.specs.FinMap.Entries.{below_all}
use Rattle.gate_base.specs.Maps.{name_cmp}
use Rattle.s3_machine.specs.Items.{behind}
use Rattle.list_pages.specs.Rolling.{UpTo, AllUpTo, Before, ends}
use Rattle.list_pages.proofs.lemmas.Rising.{upto_trans, tells}

antisymmetric : IsAntisymmetric name_cmp
antisymmetric = slice_cmp-IsAntisymmetric nat_cmp-IsAntisymmetric

turned : (a b : List ℕ) (o : Ordering) → name_cmp a b ≡ o → name_cmp b a ≡ ordering_reverse o
turned a b o e = nat_list_cmp_total.antisymm b a ∙ ap ordering_reverse e

parts : (a b : Bool) → T (a && b) → T a × T b
parts true b p = (tt, p)
parts false b p = absurd p

pub is_less : (o : Ordering) → T (is_lt o) → o ≡ Less
is_less Less p = refl
is_less Equal p = absurd p
is_less Greater p = absurd p

-- up to, and not the same
strictly : (a b : List ℕ) (o : Ordering) → name_cmp a b ≡ o → UpTo a b → eq_by_cmp name_cmp b a ≡ false → name_cmp a b ≡ Less
strictly a b Less e up other = e
strictly a b Equal e up other = let h : true ≡ false = ap is_eq (sym (turned a b Equal e)) ∙ other in cc h
strictly a b Greater e up other = let h : true ≡ false = ap is_gt (sym e) ∙ up in cc h

module _ {X : Type 0} where
  put_end : (t : List ℕ) (v : X) (es : List (List ℕ × X)) → Before t es → put name_cmp t v es ≡ es ++ (t, v) ∷ []
  put_end t v [] below = refl
  put_end t v (e ∷ es) below = rw (turned e.0 t Less below.0) (ap (λ l. e ∷ l) (put_end t v es below.1))

  find_none : (t : List ℕ) (es : List (List ℕ × X)) → Before t es → find name_cmp t es ≡ None
  find_none t [] below = refl
  find_none t (e ∷ es) below = rw (turned e.0 t Less below.0) (find_none t es below.1)

  pub below_ends : (t : List ℕ) (es : List (List ℕ × X)) → T (is_sorted name_cmp es) → AllUpTo t es → ends t es ≡ false → Before t es
  below_ends t [] s up other = tt
  below_ends t (e ∷ []) s up other = (strictly e.0 t (name_cmp e.0 t) refl up.0 other, tt)
  below_ends t (e ∷ f ∷ es) s up other =
      let rest = below_ends t (f ∷ es) (parts (below_all name_cmp e.0 (f ∷ es)) (is_sorted name_cmp (f ∷ es)) s).1 up.1 other in
      let first = is_less (name_cmp e.0 f.0) (parts (is_lt (name_cmp e.0 f.0)) (below_all name_cmp e.0 es) (parts (below_all name_cmp e.0 (f ∷ es)) (is_sorted name_cmp (f ∷ es)) s).0).0 in
      (nat_list_cmp_total.trans e.0 f.0 t first rest.0, rest)

  find_end : (t : List ℕ) (es : List (List ℕ × X)) → ends t es ≡ true → is_some (find name_cmp t es) ≡ true
  find_end t [] h = let k : false ≡ true = h in cc k
  find_end t (e ∷ []) h = ap (λ b. is_some (cond b (Some e.1) None)) h
  find_end t (e ∷ f ∷ es) h = elim (eq_by_cmp name_cmp t e.0) as (λ b. is_some (cond b (Some e.1) (find name_cmp t (f ∷ es))) ≡ true) [ true ↦ refl | false ↦ find_end t (f ∷ es) h ]

  abbrev or_else : Option X → Option X → Option X
  or_else None w = w
  or_else (Some x) w = Some x

  find_push : (q t : List ℕ) (v : X) (es : List (List ℕ × X)) → find name_cmp q (es ++ (t, v) ∷ []) ≡ or_else (find name_cmp q es) (cond (eq_by_cmp name_cmp q t) (Some v) None)
  find_push q t v [] = refl
  find_push q t v (e ∷ es) = elim (eq_by_cmp name_cmp q e.0) as (λ b. cond b (Some e.1) (find name_cmp q (es ++ (t, v) ∷ [])) ≡ or_else (cond b (Some e.1) (find name_cmp q es)) (cond (eq_by_cmp name_cmp q t) (Some v) None)) [ true ↦ refl | false ↦ find_push q t v es ]

  -- nothing more is found by a row that comes again
  again : (o w : Option X) (b : Bool) (v : X) → (b ≡ true → is_some o ≡ true) → or_else o (cond b (Some v) None) ≡ o
  again None w true v h = let k : false ≡ true = h refl in cc k
  again None w false v h = refl
  again (Some x) w b v h = refl

  pub push_same : (es : List (List ℕ × X)) (t : List ℕ) (v : X) → ends t (entries (from_entries {R = name_cmp} es)) ≡ true → from_entries {R = name_cmp} (es ++ (t, v) ∷ []) ≡ from_entries es
  push_same es t v h =
      let found : is_some (find name_cmp t es) ≡ true = ap is_some (sym (get-from_entries nat_list_cmp_total es t) ∙ get-entries (from_entries {R = name_cmp} es) t) ∙ find_end t (entries (from_entries {R = name_cmp} es)) h in
      same_map nat_list_cmp_total antisymmetric (from_entries {R = name_cmp} (es ++ (t, v) ∷ [])) (from_entries es)
      (λ q. get-from_entries nat_list_cmp_total (es ++ (t, v) ∷ []) q ∙ find_push q t v es
      ∙ again (find name_cmp q es) None (eq_by_cmp name_cmp q t) v (λ e. ap (λ k. is_some (find name_cmp k es)) (antisymmetric q t ((Equal-is (name_cmp q t)).0 e)) ∙ found)
      ∙ sym (get-from_entries nat_list_cmp_total es q))

  pub push_new : (es : List (List ℕ × X)) (t : List ℕ) (v : X) → Before t (entries (from_entries {R = name_cmp} es)) → entries (from_entries {R = name_cmp} (es ++ (t, v) ∷ [])) ≡ entries (from_entries {R = name_cmp} es) ++ (t, v) ∷ []
  push_new es t v below =
      let none : find name_cmp t es ≡ None = sym (get-from_entries nat_list_cmp_total es t) ∙ get-entries (from_entries {R = name_cmp} es) t ∙ find_none t (entries (from_entries {R = name_cmp} es)) below in
      ap entries (from_entries_push nat_list_cmp_total antisymmetric es t v none) ∙ entries-insert nat_list_cmp_total (from_entries es) t v ∙ put_end t v (entries (from_entries es)) below

  pub upto_all : (t u : List ℕ) (es : List (List ℕ × X)) → UpTo t u → AllUpTo t es → AllUpTo u es
  upto_all t u [] h up = tt
  upto_all t u (e ∷ es) h up = (upto_trans e.0 t u up.0 h, upto_all t u es h up.1)

  pub upto_push : (t : List ℕ) (es : List (List ℕ × X)) (e : List ℕ × X) → AllUpTo t es → UpTo e.0 t → AllUpTo t (es ++ e ∷ [])
  upto_push t [] e up h = (h, tt)
  upto_push t (f ∷ es) e up h = (up.0, upto_push t es e up.1 h)

  behind_push : (m : List ℕ) (es : List (List ℕ × Option X)) (e : List ℕ × Option X) → behind m (es ++ e ∷ []) ≡ behind m es ++ behind m (e ∷ [])
  behind_push m [] e = refl
  behind_push m (f ∷ es) e = elim (is_lt (name_cmp m f.0)) as (λ b. cond b (f ∷ behind m (es ++ e ∷ [])) (behind m (es ++ e ∷ [])) ≡ cond b (f ∷ behind m es) (behind m es) ++ behind m (e ∷ [])) [ true ↦ ap (λ l. f ∷ l) (behind_push m es e) | false ↦ behind_push m es e ]

module _ {X : Type 0} where
  before_behind : (m t : List ℕ) (es : List (List ℕ × Option X)) → Before t es → Before t (behind m es)
  before_behind m t [] below = tt
  before_behind m t (f ∷ es) below = elim (is_lt (name_cmp m f.0)) as (λ b. Before t (cond b (f ∷ behind m es) (behind m es))) [ true ↦ (below.0, before_behind m t es below.1) | false ↦ before_behind m t es below.1 ]

  no_end : (t : List ℕ) (es : List (List ℕ × Option X)) → Before t es → ends t es ≡ false
  no_end t [] below = refl
  no_end t (e ∷ []) below = ap is_eq (turned e.0 t Less below.0)
  no_end t (e ∷ f ∷ es) below = no_end t (f ∷ es) below.1

  -- a last row behind the marker is the last of those
  ends_behind : (m t : List ℕ) (es : List (List ℕ × Option X)) → is_lt (name_cmp m t) ≡ true → ends t es ≡ true → ends t (behind m es) ≡ true
  ends_behind m t [] lt h = h
  ends_behind m t (e ∷ []) lt h =
      let same : t ≡ e.0 = antisymmetric t e.0 ((Equal-is (name_cmp t e.0)).0 h) in
      let passes : is_lt (name_cmp m e.0) ≡ true = ap (λ k. is_lt (name_cmp m k)) (sym same) ∙ lt in
      ap (λ b. ends t (cond b (e ∷ []) [])) passes ∙ h
  ends_behind m t (e ∷ f ∷ es) lt h = ends_cons m t e (behind m (f ∷ es)) (is_lt (name_cmp m e.0)) (ends_behind m t (f ∷ es) lt h)
    where
      ends_cons : (m t : List ℕ) (e : List ℕ × Option X) (rest : List (List ℕ × Option X)) (b : Bool) → ends t rest ≡ true → ends t (cond b (e ∷ rest) rest) ≡ true
      ends_cons m t e [] b h = let k : false ≡ true = h in cc k
      ends_cons m t e (g ∷ rest) true h = h
      ends_cons m t e (g ∷ rest) false h = h

  ends_push : (t : List ℕ) (v : Option X) (es : List (List ℕ × Option X)) → ends t (es ++ (t, v) ∷ []) ≡ true
  ends_push t v [] = (eq_by_cmp_equiv nat_list_cmp_total).refl t
  ends_push t v (e ∷ []) = ends_push t v []
  ends_push t v (e ∷ f ∷ es) = ends_push t v (f ∷ es)

  -- the last row has one text
  pub same_ends : (t u : List ℕ) (es : List (List ℕ × Option X)) → ends t es ≡ true → ends u es ≡ true → t ≡ u
  same_ends t u [] h k = let none : false ≡ true = h in cc none
  same_ends t u (e ∷ []) h k = antisymmetric t e.0 ((Equal-is (name_cmp t e.0)).0 h) ∙ sym (antisymmetric u e.0 ((Equal-is (name_cmp u e.0)).0 k))
  same_ends t u (e ∷ f ∷ es) h k = same_ends t u (f ∷ es) h k

  module _ (m t : List ℕ) (v : Option X) (es : List (List ℕ × Option X)) (up : AllUpTo t (entries (from_entries {R = name_cmp} es))) where
    below_new : ends t (entries (from_entries {R = name_cmp} es)) ≡ false → Before t (entries (from_entries {R = name_cmp} es))
    below_new other = below_ends t (entries (from_entries {R = name_cmp} es)) (entries_sorted (from_entries {R = name_cmp} es)) up other

    -- a row that isn't behind the marker
    pub push_hidden : is_lt (name_cmp m t) ≡ false → behind m (entries (from_entries {R = name_cmp} (es ++ (t, v) ∷ []))) ≡ behind m (entries (from_entries {R = name_cmp} es))
    push_hidden hidden = elim (tells (ends t (entries (from_entries {R = name_cmp} es)))) [
      | inl h ↦ ap (λ f. behind m (entries f)) (push_same es t v h)
      | inr h ↦ ap (behind m) (push_new es t v (below_new h)) ∙ behind_push m (entries (from_entries {R = name_cmp} es)) (t, v) ∙ ap (λ b. behind m (entries (from_entries {R = name_cmp} es)) ++ cond b ((t, v) ∷ []) []) hidden ∙ append-nil (behind m (entries (from_entries {R = name_cmp} es)))
    ]

    -- a row that is the last one again
    pub push_again : ends t (behind m (entries (from_entries {R = name_cmp} es))) ≡ true → behind m (entries (from_entries {R = name_cmp} (es ++ (t, v) ∷ []))) ≡ behind m (entries (from_entries {R = name_cmp} es))
    push_again again = elim (tells (ends t (entries (from_entries {R = name_cmp} es)))) [
      | inl h ↦ ap (λ f. behind m (entries f)) (push_same es t v h)
      | inr h ↦ let k : true ≡ false = sym again ∙ no_end t (behind m (entries (from_entries {R = name_cmp} es))) (before_behind m t (entries (from_entries {R = name_cmp} es)) (below_new h)) in cc k
    ]

    -- another row than the last of all, behind the marker
    pub push_beyond : is_lt (name_cmp m t) ≡ true → ends t (entries (from_entries {R = name_cmp} es)) ≡ false → behind m (entries (from_entries {R = name_cmp} (es ++ (t, v) ∷ []))) ≡ behind m (entries (from_entries {R = name_cmp} es)) ++ (t, v) ∷ []
    push_beyond shown other = ap (behind m) (push_new es t v (below_new other)) ∙ behind_push m (entries (from_entries {R = name_cmp} es)) (t, v) ∙ ap (λ b. behind m (entries (from_entries {R = name_cmp} es)) ++ cond b ((t, v) ∷ []) []) shown

    -- another row behind the marker
    pub push_other : is_lt (name_cmp m t) ≡ true → ends t (behind m (entries (from_entries {R = name_cmp} es))) ≡ false → behind m (entries (from_entries {R = name_cmp} (es ++ (t, v) ∷ []))) ≡ behind m (entries (from_entries {R = name_cmp} es)) ++ (t, v) ∷ []
    push_other shown other = elim (tells (ends t (entries (from_entries {R = name_cmp} es)))) [
      | inl h ↦ let k : true ≡ false = sym (ends_behind m t (entries (from_entries {R = name_cmp} es)) shown h) ∙ other in cc k
      | inr h ↦ push_beyond shown h
    ]

    -- the new row is the last of all
    pub push_ends : ends t (entries (from_entries {R = name_cmp} (es ++ (t, v) ∷ []))) ≡ true
    push_ends = elim (tells (ends t (entries (from_entries {R = name_cmp} es)))) [
      | inl h ↦ ap (λ f. ends t (entries f)) (push_same es t v h) ∙ h
      | inr h ↦ ap (ends t) (push_new es t v (below_new h)) ∙ ends_push t v (entries (from_entries {R = name_cmp} es))
    ]

    -- all rows are still up to the new one
    pub push_upto : AllUpTo t (entries (from_entries {R = name_cmp} (es ++ (t, v) ∷ [])))
    push_upto = elim (tells (ends t (entries (from_entries {R = name_cmp} es)))) [
      | inl h ↦ subst (λ f. AllUpTo t (entries f)) (sym (push_same es t v h)) up
      | inr h ↦ subst (λ l. AllUpTo t l) (sym (push_new es t v (below_new h))) (upto_push t (entries (from_entries {R = name_cmp} es)) (t, v) up (ap is_gt ((Equal-is (name_cmp t t)).0 ((eq_by_cmp_equiv nat_list_cmp_total).refl t))))
    ]

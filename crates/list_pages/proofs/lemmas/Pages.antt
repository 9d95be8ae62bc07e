-- Keys that come in pages.
use Rattle.std.proofs.Common.{◌≡◌, ℕ, Bool, true, false, cond, ◌&&◌, List, [], ◌∷◌, ◌++◌, Option, refl, sym, ◌∙◌, ap, subst, T, append_assoc}
use Rattle.std.proofs.lemmas.List.{append-nil}
use Rattle.std.specs.List.{filter}
use Rattle.std.specs.declared.cmp.Ordering.{Ordering}
use Rattle.std.specs.declared.cmp.Ordering.TheVariants.{Less, Equal, Greater}
use Rattle.std.specs.Ordering.{is_lt, ordering_reverse}
use Rattle.std.specs.Cmp.Lexicographic.{nat_list_cmp_total}
use Rattle.std.specs.FinMap.{is_sorted}
use Rattle.std.specs.FinMap.Entries.{below_all}
use Rattle.gate_base.specs.Maps.{name_cmp}
use Rattle.list_pages.specs.Rolling.{Wanted}
use Rattle.list_pages.specs.Rolling.{Rises, Rolled}
use Rattle.list_pages.proofs.lemmas.Rolling.{push_over}

-- once one is left over, no further key changes anything
pub roll_rest : {H : Type 0} (w : Wanted) (shown : List (List ℕ × Option H)) (more : Bool) (seen rest : List (List ℕ × H)) → more ≡ true → Rises w.prefix seen rest → Rolled w shown more seen → Rolled w shown more (seen ++ rest)
roll_rest w shown more seen [] over rises r = subst (λ l. Rolled w shown more l) (sym (append-nil seen)) r
roll_rest w shown more seen (k ∷ rest) over rises r =
    subst (λ l. Rolled w shown more l) (append_assoc seen (k ∷ []) rest)
    (roll_rest w shown more (seen ++ k ∷ []) rest over rises.2 (push_over w shown more seen k.0 k.1 rises.0 r rises.1 over))

pub parts : (a b : Bool) → T (a && b) → T a × T b
parts true b p = (tt, p)
parts false b p = absurd p

pub told : (b : Bool) → T b → b ≡ true
told true p = refl
told false p = absurd p

pub not_below : (a b : List ℕ) → T (is_lt (name_cmp a b)) → is_lt (name_cmp b a) ≡ false
not_below a b h = turned (name_cmp a b) (name_cmp b a) (nat_list_cmp_total.antisymm b a) h
  where
    turned : (o u : Ordering) → u ≡ ordering_reverse o → T (is_lt o) → is_lt u ≡ false
    turned Less u e h = ap is_lt e
    turned Equal u e h = absurd h
    turned Greater u e h = absurd h

pub not_itself : (a : List ℕ) → is_lt (name_cmp a a) ≡ false
not_itself a = same (name_cmp a a) (nat_list_cmp_total.antisymm a a)
  where
    same : (o : Ordering) → o ≡ ordering_reverse o → is_lt o ≡ false
    same Less e = let h : Less ≡ Greater = e in cc h
    same Equal e = refl
    same Greater e = refl

module _ {H : Type 0} where
  pub all_behind : (m : List ℕ) (b : List (List ℕ × H)) → T (below_all name_cmp m b) → filter (λ x. is_lt (name_cmp m x.0)) b ≡ b
  all_behind m [] h = refl
  all_behind m (x ∷ b) h =
      let p = parts (is_lt (name_cmp m x.0)) (below_all name_cmp m b) h in
      ap (λ t. cond t (x ∷ filter (λ x. is_lt (name_cmp m x.0)) b) (filter (λ x. is_lt (name_cmp m x.0)) b)) (told (is_lt (name_cmp m x.0)) p.0) ∙ ap (λ l. x ∷ l) (all_behind m b p.1)

  pub below_one : (m : List ℕ) (a b : List (List ℕ × H)) (e : List ℕ × H) → T (below_all name_cmp m (a ++ e ∷ b)) → T (is_lt (name_cmp m e.0))
  below_one m [] b e h = (parts (is_lt (name_cmp m e.0)) (below_all name_cmp m b) h).0
  below_one m (x ∷ a) b e h = below_one m a b e (parts (is_lt (name_cmp m x.0)) (below_all name_cmp m (a ++ e ∷ b)) h).1

  -- behind a key of a sorted list stands what comes after it
  pub behind_key : (a b : List (List ℕ × H)) (e : List ℕ × H) → T (is_sorted name_cmp (a ++ e ∷ b)) → filter (λ x. is_lt (name_cmp e.0 x.0)) (a ++ e ∷ b) ≡ b
  behind_key [] b e s =
      ap (λ t. cond t (e ∷ filter (λ x. is_lt (name_cmp e.0 x.0)) b) (filter (λ x. is_lt (name_cmp e.0 x.0)) b)) (not_itself e.0) ∙ all_behind e.0 b (parts (below_all name_cmp e.0 b) (is_sorted name_cmp b) s).0
  behind_key (x ∷ a) b e s =
      let p = parts (below_all name_cmp x.0 (a ++ e ∷ b)) (is_sorted name_cmp (a ++ e ∷ b)) s in
      ap (λ t. cond t (x ∷ filter (λ x. is_lt (name_cmp e.0 x.0)) (a ++ e ∷ b)) (filter (λ x. is_lt (name_cmp e.0 x.0)) (a ++ e ∷ b))) (not_below x.0 e.0 (below_one x.0 a b e p.0)) ∙ behind_key a b e p.1

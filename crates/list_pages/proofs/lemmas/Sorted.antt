-- Keys in their order, and parts of them.
use Rattle.std.proofs.Common.{◌≡◌, ℕ, zero, suc, Bool, true, false, cond, ◌&&◌, List, [], ◌∷◌, ◌++◌, take, refl, sym, ap, subst, ◌∙◌, T, append_assoc}
use Rattle.std.specs.List.{filter, list_all}
use Rattle.std.specs.Ordering.{is_lt}
use Rattle.std.specs.FinMap.{is_sorted}
use Rattle.std.specs.FinMap.Entries.{below_all}
use Rattle.std.proofs.lemmas.Bool.{and_parts}
use Rattle.gate_base.specs.Maps.{name_cmp}
use Rattle.s3_machine.specs.Items.{begins, with_prefix}
use Rattle.list_pages.specs.Rolling.{Before, Rises}
use Rattle.list_pages.proofs.lemmas.Pushing.{is_less}
use Rattle.list_pages.proofs.lemmas.Pages.{parts, below_one}

pub both : (a b : Bool) → T a → T b → T (a && b)
both true b p q = q
both false b p q = absurd p

module _ {H : Type 0} where
  below_filter : (x : List ℕ) (p : List ℕ × H → Bool) (es : List (List ℕ × H)) → T (below_all name_cmp x es) → T (below_all name_cmp x (filter p es))
  below_filter x p [] h = h
  below_filter x p (e ∷ es) h =
      let a = parts (is_lt (name_cmp x e.0)) (below_all name_cmp x es) h in
      elim (p e) as (λ t. T (below_all name_cmp x (cond t (e ∷ filter p es) (filter p es)))) [
        | true ↦ both (is_lt (name_cmp x e.0)) (below_all name_cmp x (filter p es)) a.0 (below_filter x p es a.1)
        | false ↦ below_filter x p es a.1
      ]

  -- those of sorted entries that pass a test are sorted
  pub sorted_filter : (p : List ℕ × H → Bool) (es : List (List ℕ × H)) → T (is_sorted name_cmp es) → T (is_sorted name_cmp (filter p es))
  sorted_filter p [] h = h
  sorted_filter p (e ∷ es) h =
      let a = parts (below_all name_cmp e.0 es) (is_sorted name_cmp es) h in
      elim (p e) as (λ t. T (is_sorted name_cmp (cond t (e ∷ filter p es) (filter p es)))) [
        | true ↦ both (below_all name_cmp e.0 (filter p es)) (is_sorted name_cmp (filter p es)) (below_filter e.0 p es a.0) (sorted_filter p es a.1)
        | false ↦ sorted_filter p es a.1
      ]

  -- each entry passes a test that chose it
  pub filter_passes : (p : List ℕ × H → Bool) (es : List (List ℕ × H)) → list_all p (filter p es) ≡ true
  filter_passes p [] = refl
  filter_passes p (e ∷ es) = elim (p e) as (λ t. p e ≡ t → list_all p (cond t (e ∷ filter p es) (filter p es)) ≡ true) [
    | true ↦ λ is. ap (λ t. t && list_all p (filter p es)) is ∙ filter_passes p es
    | false ↦ λ is. filter_passes p es
  ] refl

  before_sorted : (a b : List (List ℕ × H)) (k : List ℕ × H) → T (is_sorted name_cmp (a ++ k ∷ b)) → Before k.0 a
  before_sorted [] b k h = tt
  before_sorted (x ∷ a) b k h =
      let p = parts (below_all name_cmp x.0 (a ++ k ∷ b)) (is_sorted name_cmp (a ++ k ∷ b)) h in
      (is_less (name_cmp x.0 k.0) (below_one x.0 a b k p.0), before_sorted a b k p.1)

  -- sorted keys with the prefix come one after the other
  pub rises_sorted : (prefix : List ℕ) (a b : List (List ℕ × H)) → T (is_sorted name_cmp (a ++ b)) → list_all (λ k. begins prefix k.0) b ≡ true → Rises prefix a b
  rises_sorted prefix a [] h all = tt
  rises_sorted prefix a (k ∷ b) h all =
      let one = and_parts (begins prefix k.0) (list_all (λ k. begins prefix k.0) b) all in
      (one.0, before_sorted a b k h, rises_sorted prefix (a ++ k ∷ []) b (subst (λ l. T (is_sorted name_cmp l)) (sym (append_assoc a (k ∷ []) b)) h) one.1)

  pub rises_front : (prefix : List ℕ) (n : ℕ) (a b : List (List ℕ × H)) → Rises prefix a b → Rises prefix a (take n b)
  rises_front prefix zero a b h = tt
  rises_front prefix (suc n) a [] h = tt
  rises_front prefix (suc n) a (k ∷ b) h = (h.0, h.1, rises_front prefix n (a ++ k ∷ []) b h.2)

  pub all_filter : (q p : List ℕ × H → Bool) (es : List (List ℕ × H)) → list_all q es ≡ true → list_all q (filter p es) ≡ true
  all_filter q p [] h = refl
  all_filter q p (e ∷ es) h =
      let a = and_parts (q e) (list_all q es) h in
      elim (p e) as (λ t. list_all q (cond t (e ∷ filter p es) (filter p es)) ≡ true) [
        | true ↦ ap (λ t. t && list_all q (filter p es)) a.0 ∙ all_filter q p es a.1
        | false ↦ all_filter q p es a.1
      ]

  pub with_prefix_behind : (prefix : List ℕ) (p : List ℕ × H → Bool) (keys : List (List ℕ × H)) → list_all (λ k. begins prefix k.0) (filter p (with_prefix prefix keys)) ≡ true
  with_prefix_behind prefix p keys = all_filter (λ k. begins prefix k.0) p (with_prefix prefix keys) (filter_passes (λ k. begins prefix k.0) keys)

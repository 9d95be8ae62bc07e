-- Where an answer ends, by the head that was found; and bytes begin with at most one head.
use Rattle.std.proofs.Common.{◌≡◌, ℕ, ◌+◌, ◌<◌, Bool, true, false, List, length, drop, Option, Some, None, refl, sym, ap, subst, ◌∙◌, arith, inl, inr}
use Rattle.std.specs.Prelude.{nat_le, if◌then◌else◌, ⊤}
use Rattle.std.proofs.lemmas.Bool.{leb-true}
use Rattle.std.proofs.lemmas.Bool.Decides.{nat_tests}
use Rattle.httparse.specs.Grammar.{ResponseHead, print_response, status_code}
use Rattle.httparse.proofs.GrammarLemmas.{response_unique}
use Rattle.http_answers.specs.Framing.{HasHead, BeginsAnswer, IsHopeless, Ends, answer_end_by, expected, expected_of}
use Rattle.http_answers.specs.Head.{IsDead, IsOpen, Shows}
use Rattle.http_answers.specs.declared.framing.End.TheVariants.{More, At, Bad}
use Rattle.http_answers.specs.declared.head.Head.{Head}
use Rattle.http_answers.specs.declared.head.Front.TheVariants as front
use Rattle.http_answers.proofs.lemmas.HeadLemmas.{no_head}

pub same_head : (bytes : List ℕ) (h k : ResponseHead) (n m : ℕ) → HasHead bytes h n → HasHead bytes k m → h ≡ k
same_head bytes h k n m has had = (response_unique bytes h k (drop n bytes) (drop m bytes) has.0 had.0).0

pub same_size : (bytes : List ℕ) (h k : ResponseHead) (n m : ℕ) → HasHead bytes h n → HasHead bytes k m → n ≡ m
same_size bytes h k n m has had =
    has.1 ∙ ap (λ v. length (print_response v)) (same_head bytes h k n m has had) ∙ sym had.1

pub some_is : (x y : Option ℕ) (n m : ℕ) → x ≡ y → x ≡ Some n → y ≡ Some m → n ≡ m
some_is x y n m same first second = some_injective (sym first ∙ same ∙ second)
  where
    some_injective : Some n ≡ Some m → n ≡ m
    some_injective e = ap (λ (o : Option ℕ). value o) e
      where
        value : Option ℕ → ℕ
        value None = n
        value (Some v) = v

none_is : (m : ℕ) (A : Type 0) → Some m ≡ None → A
none_is m A e = absurd (subst is_some_of e tt)
  where
    is_some_of : Option ℕ → Type 0
    is_some_of None = ⊥
    is_some_of (Some v) = ⊤

pub ends_open : (head : Bool) (bytes : List ℕ) → IsOpen bytes → Ends head bytes More
ends_open head bytes (none, lives, short) = ((λ h n m begins. no_head bytes none h n begins.0), hopeless)
  where
    hopeless : ¬ (IsHopeless head bytes)
    hopeless (inl (gone, inl never)) = lives never
    hopeless (inl (gone, inr long)) = omega (arith, short, long)
    hopeless (inr (h, n, has, refused)) = no_head bytes none h n has

pub ends_dead : (head : Bool) (bytes : List ℕ) → IsDead bytes → Ends head bytes Bad
ends_dead head bytes dead = inl dead

ends_at : (head : Bool) (bytes : List ℕ) (h : ResponseHead) (n : ℕ) → HasHead bytes h n → (size : Option ℕ) → expected_of head h ≡ size
    → Ends head bytes (answer_end_by (length bytes) n size)
ends_at head bytes h n has None is = inr (h, n, has, is)
ends_at head bytes h n has (Some m) is = by_size (nat_le (n + m) (length bytes)) refl
  where
    by_size : (b : Bool) → nat_le (n + m) (length bytes) ≡ b → Ends head bytes (if b then At (n + m) else More)
    by_size true within = (h, n, m, (has, is, leb-true (n + m) (length bytes) within), refl)
    by_size false past = (begins, hopeless)
      where
        begins : (k : ResponseHead) (p q : ℕ) → ¬ (BeginsAnswer head bytes k p q)
        begins k p q (had, size, fits) =
            let body : m ≡ q = some_is _ _ m q (ap (expected_of head) (same_head bytes h k n p has had)) is size in
            let whole : n ≡ p = same_size bytes h k n p has had in
            let long : length bytes < n + m = grind (arith, nat_tests) in
            omega (arith, body, whole, long, fits)

        hopeless : ¬ (IsHopeless head bytes)
        hopeless (inl (gone, more)) = gone h n has
        hopeless (inr (k, p, had, refused)) =
            none_is m ⊥ (sym is ∙ ap (expected_of head) (same_head bytes h k n p has had) ∙ refused)

-- where an answer ends whose head was found
pub ends_whole : (head : Bool) (bytes : List ℕ) (found : Head) → Shows bytes (front.Whole found)
    → Ends head bytes (answer_end_by (length bytes) found.len (expected head found.status found.headers))
ends_whole head bytes found (h, has, status, headers) =
    ends_at head bytes h found.len has (expected head found.status found.headers)
    (sym (ap (λ s. expected head s found.headers) status ∙ ap (expected head (status_code h)) headers))

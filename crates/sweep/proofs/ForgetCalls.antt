-- Calls that forget completions, one stretch after another.
use Rattle.std.specs.Prelude.{◌≡◌, ◌≤◌, ◌<◌, ◌+◌, ℕ, nat_lt, cond, true, false, List, [], ◌∷◌, ◌++◌, length, take, Result, Ok, Err}
use Rattle.std.specs.Result.{IsErrAnd}
use Rattle.std.proofs.Common.{refl, sym, ap, subst, ◌∙◌, inl, inr, arith}
use Rattle.std.proofs.Math.Seq.{take-append-add}
use Rattle.std.proofs.lemmas.Bool.{cases_lt}
use Rattle.std.proofs.lemmas.Bool.Decides.{nat_tests}
use Rattle.std.proofs.lemmas.List.{append-nil, length-append, take-append-le}
use Rattle.gate_base.specs.Maps.{adjust}
use Rattle.s3_machine.specs.State.{State}
use Rattle.swift_calls.specs.Account.{SwiftAccount}
use Rattle.swift_calls.specs.History.{History, Extends, present}
use Rattle.upload_records.specs.Native.{s3_state}
use Rattle.upload_records.specs.Consistent.{IsConsistent}
use Rattle.account_calls.specs.declared.fault.PlanFault.{PlanFault}
use Rattle.account_calls.specs.declared.fault.PlanFault.TheVariants as fault
use Rattle.account_calls.specs.Calls.{Asks, Bound, Keeps, Met}
use Rattle.account_calls.specs.Fault.{CausesFault}
use Rattle.account_calls.specs.Stutters.{Stutters}
use Rattle.account_calls.proofs.lemmas.Agree.{failed_behind}
use Rattle.account_calls.proofs.lemmas.Faults.{err_is}
use Rattle.account_calls.proofs.lemmas.Idle.{goes_none, goes_trans, none_made}
use Rattle.sweep.specs.Aging.{Forgetting, ForgetsFirst, ForgetsOf}
use Rattle.sweep.specs.Forgetting.{forget_kept, without_kept}

abbrev pub Pairs : Type 0
Pairs = List (List ℕ × List ℕ)

abbrev pub no_olds : SwiftAccount → Pairs
no_olds tree = []

-- ---- the state without some completions

take_none : (xs : Pairs) → take 0 xs ≡ []
take_none [] = refl
take_none (x ∷ xs) = refl

pub without_nothing : (state : State) → without_kept [] state ≡ state
unfolding without_kept
without_nothing state = refl

pub without_none : (olds : Pairs) (state : State) → without_kept (take 0 olds) state ≡ state
without_none olds state = ap (λ l. without_kept l state) (take_none olds) ∙ without_nothing state

pub without_append : (xs ys : Pairs) (state : State) → without_kept (xs ++ ys) state ≡ without_kept ys (without_kept xs state)
unfolding without_kept
without_append [] ys state = refl
without_append (x ∷ xs) ys state = without_append xs ys (adjust x.0 (forget_kept x.1) state)

pub lt_is : (k q : ℕ) → k < q → nat_lt k q ≡ true
lt_is k q near = grind (arith, nat_tests)

pub not_lt : (k q : ℕ) → q ≤ k → nat_lt k q ≡ false
not_lt k q far = grind (arith, nat_tests)

-- ---- at each number of calls

pub first_quiet : (olds : Pairs) {h : History} {p q : ℕ} → Stutters h p q → ForgetsFirst olds h p q
first_quiet olds {h = h} {p = p} quiet = record {
  ordered = quiet.ordered;
  gone = λ k. 0;
  most = λ k from to. omega arith;
  rises = λ j k from on to. omega arith;
  is = λ k from to. quiet.same k from to ∙ sym (without_none olds (s3_state (h.account_at p)));
  sound = quiet.sound;
}

-- the first of some are the first of more
pub first_more : (xs ys : Pairs) {h : History} {p q : ℕ} → ForgetsFirst xs h p q → ForgetsFirst (xs ++ ys) h p q
first_more xs ys {h = h} {p = p} first = record {
  ordered = first.ordered;
  gone = first.gone;
  most = λ k from to. let few = first.most k from to in omega (arith, few, length-append xs ys);
  rises = first.rises;
  is = λ k from to. first.is k from to ∙ ap (λ l. without_kept l (s3_state (h.account_at p))) (sym (take-append-le (first.gone k) xs ys (first.most k from to)));
  sound = first.sound;
}

-- told by a later history
pub first_agree : (olds : Pairs) {b c : History} {p q : ℕ} → Extends q b c → ForgetsFirst olds b p q → ForgetsFirst olds c p q
first_agree olds {p = p} kept first = record {
  ordered = first.ordered;
  gone = first.gone;
  most = first.most;
  rises = first.rises;
  is = λ k from to.
      let order = first.ordered in
      ap s3_state (kept.accounts k to) ∙ first.is k from to ∙ ap (λ (tree : SwiftAccount). without_kept (take (first.gone k) olds) (s3_state tree)) (sym (kept.accounts p order));
  sound = λ k from to. subst IsConsistent (sym (kept.accounts k to)) (first.sound k from to);
}

-- all of these, and then the first of others
module _ (xs ys : Pairs) {h : History} {p q r : ℕ} (first : ForgetsFirst xs h p q) (all : s3_state (h.account_at q) ≡ without_kept xs (s3_state (h.account_at p))) (then : ForgetsFirst ys h q r) where
  count : ℕ → ℕ
  count k = cond (nat_lt k q) (first.gone k) (length xs + then.gone k)

  below : (k : ℕ) → k < q → count k ≡ first.gone k
  unfolding count
  below k near = ap (λ t. cond t (first.gone k) (length xs + then.gone k)) (lt_is k q near)

  above : (k : ℕ) → q ≤ k → count k ≡ length xs + then.gone k
  unfolding count
  above k far = ap (λ t. cond t (first.gone k) (length xs + then.gone k)) (not_lt k q far)

  few_here : (k : ℕ) → p ≤ k → k ≤ r → count k ≤ length (xs ++ ys)
  few_here k from to = elim (cases_lt k q) as (λ _. count k ≤ length (xs ++ ys)) [
    | inl near ↦ let few = first.most k from (omega (arith, near)) in let e = below k near in omega (arith, few, e, length-append xs ys)
    | inr far ↦ let few = then.most k far to in let e = above k far in omega (arith, few, e, length-append xs ys)
  ]

  rises_here : (j k : ℕ) → p ≤ j → j ≤ k → k ≤ r → count j ≤ count k
  rises_here j k from on to = elim (cases_lt k q) as (λ _. count j ≤ count k) [
    | inl near ↦
        let e = below j (omega (arith, on, near)) in
        let f = below k near in
        let up = first.rises j k from on (omega (arith, near)) in
        omega (arith, e, f, up)
    | inr far ↦ elim (cases_lt j q) as (λ _. count j ≤ count k) [
      | inl near ↦ let e = below j near in let f = above k far in let few = first.most j from (omega (arith, near)) in omega (arith, e, f, few)
      | inr later ↦ let e = above j later in let f = above k far in let up = then.rises j k later on to in omega (arith, e, f, up)
    ]
  ]

  is_here : (k : ℕ) → p ≤ k → k ≤ r → s3_state (h.account_at k) ≡ without_kept (take (count k) (xs ++ ys)) (s3_state (h.account_at p))
  is_here k from to = elim (cases_lt k q) as (λ _. s3_state (h.account_at k) ≡ without_kept (take (count k) (xs ++ ys)) (s3_state (h.account_at p))) [
    | inl near ↦
        let within : k ≤ q = omega (arith, near) in
        first.is k from within
        ∙ ap (λ l. without_kept l (s3_state (h.account_at p))) (sym (ap (λ n. take n (xs ++ ys)) (below k near) ∙ take-append-le (first.gone k) xs ys (first.most k from within)))
    | inr far ↦
        then.is k far to ∙ ap (without_kept (take (then.gone k) ys)) all ∙ sym (without_append xs (take (then.gone k) ys) (s3_state (h.account_at p)))
        ∙ ap (λ l. without_kept l (s3_state (h.account_at p))) (sym (ap (λ n. take n (xs ++ ys)) (above k far) ∙ take-append-add xs ys (then.gone k)))
  ]

  all_sound : (k : ℕ) → p ≤ k → k ≤ r → IsConsistent (h.account_at k)
  all_sound k from to = elim (cases_lt k q) as (λ _. IsConsistent (h.account_at k)) [
    | inl near ↦ first.sound k from (omega (arith, near))
    | inr far ↦ then.sound k far to
  ]

  pub first_trans : ForgetsFirst (xs ++ ys) h p r
  first_trans = record {
    ordered = let one = first.ordered in let other = then.ordered in omega (arith, one, other);
    gone = count;
    most = few_here;
    rises = rises_here;
    is = is_here;
    sound = all_sound;
  }

-- ---- calls

same_cause : (T U : Type 0) (before now : ℕ) (f : PlanFault) → CausesFault {T = T} before now (Err f) → CausesFault {T = U} before now (Err f)
same_cause T U before now fault.Failed cause = cause
same_cause T U before now fault.Memory cause = cause
same_cause T U before now fault.Inconsistent cause = cause

-- the account at the number before the calls is the one that they found
pub forgetting_here : {T : Type 0} {a b : History} {given : SwiftAccount → Type 0} {olds : SwiftAccount → Pairs} {P : SwiftAccount → SwiftAccount → T → Type 0} {result : Result T PlanFault}
    → Forgetting a b given olds P result → Met given a → b.account_at a.called ≡ present a
forgetting_here {a = a} forgets met = (forgets.on.kept met.observable).accounts a.called (omega arith)

-- what is told was of that account
pub forgot_here : {T : Type 0} {a b : History} {given : SwiftAccount → Type 0} {olds : SwiftAccount → Pairs} {P : SwiftAccount → SwiftAccount → T → Type 0} {x : T}
    → Forgetting a b given olds P (Ok x) → Met given a → P (present a) (present b) x
forgot_here {b = b} {P = P} {x = x} forgets met = subst (λ (tree : SwiftAccount). P tree (present b) x) (forgetting_here forgets met) (forgets.effect met).3

pub sound_here : {T : Type 0} {a b : History} {given : SwiftAccount → Type 0} {olds : SwiftAccount → Pairs} {P : SwiftAccount → SwiftAccount → T → Type 0} {x : T}
    → Forgetting a b given olds P (Ok x) → Met given a → IsConsistent (present b)
sound_here {b = b} forgets met = let first = (forgets.effect met).0 in first.sound b.called first.ordered (omega arith)

-- calls that leave the state forget none
pub forgetting_quiet : {T : Type 0} {most : Bound} {a b : History} {given : SwiftAccount → Type 0} {P : SwiftAccount → SwiftAccount → T → Type 0} {result : Result T PlanFault}
    → Asks most a b given P result → Forgetting a b given no_olds P result
forgetting_quiet {T = T} {a = a} {b = b} {P = P} {result = result} asks = record { on = asks.grows.on; cause = asks.cause; effect = λ met. by result (asks.effect met); settled = asks.settled }
  where
    by : (result : Result T PlanFault) → Keeps b a.called b.called P result → ForgetsOf [] b a.called b.called P result
    by (Ok told) keeps =
        let order = keeps.0.ordered in
        (first_quiet [] keeps.0, keeps.0.same b.called order (omega arith) ∙ sym (without_nothing (s3_state (b.account_at a.called))), keeps.1, keeps.2)
    by (Err fault.Failed) keeps = (first_quiet [] keeps.0, keeps.1)
    by (Err fault.Memory) keeps = (first_quiet [] keeps.0, keeps.1)
    by (Err fault.Inconsistent) never = never

-- memory ran out before a call
pub forgetting_no_memory : {T : Type 0} {given : SwiftAccount → Type 0} {olds : SwiftAccount → Pairs} {P : SwiftAccount → SwiftAccount → T → Type 0} (h : History) (result : Result T PlanFault) → IsErrAnd result (λ e. e ≡ fault.Memory) → Forgetting h h given olds P result
forgetting_no_memory {given = given} {olds = olds} {P = P} h result is = subst (Forgetting h h given olds P) (sym (err_is result fault.Memory is)) (record {
  on = goes_none h;
  cause = refl;
  effect = λ met. (first_quiet (olds (present h)) (none_made refl met.sound), refl);
  settled = λ observable settled. settled;
})

-- what is told without a call
pub forgetting_idle : {T : Type 0} {given : SwiftAccount → Type 0} {olds : SwiftAccount → Pairs} {P : SwiftAccount → SwiftAccount → T → Type 0} (h : History) (x : T)
    → ((tree : SwiftAccount) → IsConsistent tree → given tree → olds tree ≡ []) → ((tree : SwiftAccount) → IsConsistent tree → given tree → P tree tree x) → Forgetting h h given olds P (Ok x)
forgetting_idle {olds = olds} h x none tells = record {
  on = goes_none h;
  cause = refl;
  effect = λ met. (
    first_quiet (olds (present h)) (none_made refl met.sound),
    sym (ap (λ l. without_kept l (s3_state (present h))) (none (present h) met.sound met.has) ∙ without_nothing (s3_state (present h))),
    refl,
    tells (present h) met.sound met.has,
  );
  settled = λ observable settled. settled;
}

met_given : {given given' : SwiftAccount → Type 0} {a : History} → ((tree : SwiftAccount) → given' tree → given tree) → Met given' a → Met given a
met_given gives met = record { observable = met.observable; sound = met.sound; has = gives _ met.has }

-- what they told is what is wanted
pub forgetting_told : {T U : Type 0} {a b : History} {given given' : SwiftAccount → Type 0} {xs zs : SwiftAccount → Pairs} {P : SwiftAccount → SwiftAccount → T → Type 0} {R : SwiftAccount → SwiftAccount → U → Type 0} {x : T} (y : U)
    → ((tree : SwiftAccount) → given' tree → given tree) → Forgetting a b given xs P (Ok x)
    → ((old new : SwiftAccount) → IsConsistent old → given' old → P old new x → zs old ≡ xs old)
    → ((old new : SwiftAccount) → IsConsistent old → given' old → P old new x → R old new y)
    → Forgetting a b given' zs R (Ok y)
forgetting_told {a = a} {b = b} {given = given} {given' = given'} {xs = xs} {zs = zs} {P = P} {R = R} {x = x} y gives forgets same tells = record {
  on = forgets.on;
  cause = forgets.cause;
  effect = λ met.
      let given_here = met_given gives met in
      let keeps = forgets.effect given_here in
      let from : b.account_at a.called ≡ present a = forgetting_here forgets given_here in
      let told = forgot_here forgets given_here in
      subst (λ l. ForgetsOf l b a.called b.called R (Ok y)) (sym (same (present a) (present b) met.sound met.has told))
      (keeps.0, keeps.1, keeps.2, subst (λ (tree : SwiftAccount). R tree (present b) y) (sym from) (tells (present a) (present b) met.sound met.has told));
  settled = forgets.settled;
}

-- they were not answered, and more was to be forgotten
pub forgetting_failed : {T U : Type 0} {a b : History} {given given' : SwiftAccount → Type 0} {xs zs : SwiftAccount → Pairs} {P : SwiftAccount → SwiftAccount → T → Type 0} {R : SwiftAccount → SwiftAccount → U → Type 0} {f : PlanFault}
    → ((tree : SwiftAccount) → given' tree → given tree) → Forgetting a b given xs P (Err f)
    → ((tree : SwiftAccount) → IsConsistent tree → given' tree → (ws : Pairs) × (zs tree ≡ xs tree ++ ws))
    → (result : Result U PlanFault) → IsErrAnd result (λ e. e ≡ f) → Forgetting a b given' zs R result
forgetting_failed {T = T} {U = U} {a = a} {b = b} {given' = given'} {xs = xs} {zs = zs} {P = P} {R = R} {f = f} gives forgets more result is =
    subst (Forgetting a b given' zs R) (sym (err_is result f is)) (record {
      on = forgets.on;
      cause = same_cause T U a.faults b.faults f forgets.cause;
      effect = λ met.
          let rest = more (present a) met.sound met.has in
          subst (λ l. ForgetsOf l b a.called b.called R (Err f)) (sym rest.1) (by f rest.0 (forgets.effect (met_given gives met)));
      settled = forgets.settled;
    })
  where
    by : (f : PlanFault) (ws : Pairs) → ForgetsOf (xs (present a)) b a.called b.called P (Err f) → ForgetsOf (xs (present a) ++ ws) b a.called b.called R (Err f)
    by fault.Failed ws keeps = (first_more (xs (present a)) ws keeps.0, keeps.1)
    by fault.Memory ws keeps = (first_more (xs (present a)) ws keeps.0, keeps.1)
    by fault.Inconsistent ws never = never

-- they were not answered, whatever they would have told
pub forgetting_vain : {T U : Type 0} {a b : History} {given : SwiftAccount → Type 0} {olds : SwiftAccount → Pairs} {P : SwiftAccount → SwiftAccount → T → Type 0} {R : SwiftAccount → SwiftAccount → U → Type 0} {f : PlanFault}
    → Forgetting a b given olds P (Err f) → (result : Result U PlanFault) → IsErrAnd result (λ e. e ≡ f) → Forgetting a b given olds R result
forgetting_vain {olds = olds} forgets result is = forgetting_failed {xs = olds} {zs = olds} (λ tree has. has) forgets (λ tree sound has. ([], sym (append-nil (olds tree)))) result is

-- calls that leave the state weren't answered
pub forgetting_quiet_failed : {T U : Type 0} {most : Bound} {a b : History} {given given' : SwiftAccount → Type 0} {olds : SwiftAccount → Pairs} {P : SwiftAccount → SwiftAccount → T → Type 0} {R : SwiftAccount → SwiftAccount → U → Type 0} {f : PlanFault}
    → ((tree : SwiftAccount) → given' tree → given tree) → Asks most a b given P (Err f) → (result : Result U PlanFault) → IsErrAnd result (λ e. e ≡ f) → Forgetting a b given' olds R result
forgetting_quiet_failed {olds = olds} gives asks result is = forgetting_failed {xs = no_olds} {zs = olds} gives (forgetting_quiet asks) (λ tree sound has. (olds tree, refl)) result is

-- ---- one stretch after another

module _ {U : Type 0} (a b c : History) (xs ys : Pairs) (Q R : SwiftAccount → SwiftAccount → U → Type 0) (first : ForgetsFirst xs b a.called b.called)
    (all : s3_state (b.account_at b.called) ≡ without_kept xs (s3_state (b.account_at a.called))) (still : b.faults_at b.called ≡ b.faults_at a.called) (kept : Extends b.called b c)
    (tells : (y : U) → Q (c.account_at b.called) (c.account_at c.called) y → R (c.account_at a.called) (c.account_at c.called) y) where
  order : a.called ≤ b.called
  order = first.ordered

  first_then : ForgetsFirst xs c a.called b.called
  first_then = first_agree xs kept first

  all_then : s3_state (c.account_at b.called) ≡ without_kept xs (s3_state (c.account_at a.called))
  all_then = ap s3_state (kept.accounts b.called (omega arith)) ∙ all ∙ ap (λ (tree : SwiftAccount). without_kept xs (s3_state tree)) (sym (kept.accounts a.called order))

  still_then : c.faults_at b.called ≡ c.faults_at a.called
  still_then = kept.counts b.called (omega arith) ∙ still ∙ sym (kept.counts a.called order)

  forgets_then : (result : Result U PlanFault) → ForgetsOf ys c b.called c.called Q result → ForgetsOf (xs ++ ys) c a.called c.called R result
  forgets_then (Ok y) keeps = (
    first_trans xs ys first_then all_then keeps.0,
    keeps.1 ∙ ap (without_kept ys) all_then ∙ sym (without_append xs ys (s3_state (c.account_at a.called))),
    keeps.2 ∙ still_then,
    tells y keeps.3,
  )
  forgets_then (Err fault.Failed) keeps = (first_trans xs ys first_then all_then keeps.0, failed_behind order still_then keeps.1)
  forgets_then (Err fault.Memory) keeps = (first_trans xs ys first_then all_then keeps.0, keeps.1 ∙ still_then)
  forgets_then (Err fault.Inconsistent) never = never

-- calls were answered, and then others go on from what those left
pub forgetting_then : {T U : Type 0} {a b c : History} {given rest : SwiftAccount → Type 0} {xs ys zs : SwiftAccount → Pairs} {P : SwiftAccount → SwiftAccount → T → Type 0} {Q R : SwiftAccount → SwiftAccount → U → Type 0} {x : T} {result : Result U PlanFault}
    → Forgetting a b given xs P (Ok x) → Forgetting b c rest ys Q result
    → ((old new : SwiftAccount) → IsConsistent old → given old → P old new x → rest new)
    → ((old new : SwiftAccount) → IsConsistent old → IsConsistent new → given old → P old new x → zs old ≡ xs old ++ ys new)
    → ((old new last : SwiftAccount) (y : U) → IsConsistent old → given old → P old new x → Q new last y → R old last y)
    → Forgetting a c given zs R result
forgetting_then {a = a} {b = b} {c = c} {given = given} {rest = rest} {xs = xs} {ys = ys} {zs = zs} {P = P} {Q = Q} {R = R} {x = x} {result = result} first then gives joins tells = record {
  on = goes_trans first.on then.on;
  cause = subst (λ n. CausesFault n c.faults result) first.cause then.cause;
  effect = λ met.
      let keeps = first.effect met in
      let order = first.on.ordered in
      let observable = first.on.observable met.observable in
      let kept = then.on.kept observable in
      let told = forgot_here first met in
      let sound = sound_here first met in
      let has = gives (present a) (present b) met.sound met.has told in
      let from : c.account_at a.called ≡ present a = kept.accounts a.called order ∙ forgetting_here first met in
      let middle : c.account_at b.called ≡ present b = kept.accounts b.called (omega arith) in
      subst (λ l. ForgetsOf l c a.called c.called R result) (sym (joins (present a) (present b) met.sound sound met.has told))
      (forgets_then a b c (xs (present a)) (ys (present b)) Q R keeps.0 keeps.1 keeps.2 kept
      (λ y next. subst (λ (tree : SwiftAccount). R tree (present c) y) (sym from) (tells (present a) (present b) (present c) y met.sound met.has told (subst (λ (tree : SwiftAccount). Q tree (present c) y) middle next)))
      result (then.effect (record { observable = observable; sound = sound; has = has })));
  settled = λ observable settled. then.settled (first.on.observable observable) (first.settled observable settled);
}

-- The containers of an account are swept one after another.
use Rattle.std.specs.Prelude.{◌≡◌, ◌≤◌, ◌<◌, ◌+◌, ◌^◌, ℕ, zero, suc, Bool, true, false, ◌||◌, sum_by, List, [], ◌∷◌, ◌++◌, length, take, get_or, is_some, Result, Ok, Err}
use Rattle.std.specs.Result.{IsErrAnd}
use Rattle.std.specs.List.{list_any, AllByRecursion}
use Rattle.std.specs.Ordering.{eq_by_cmp, is_eq}
use Rattle.std.specs.FinMap.{contains_key-keys, get, keys}
use Rattle.std.specs.declared.cmp.Ordering.TheVariants.{Less}
use Rattle.std.proofs.Common.{refl, sym, ap, subst, ◌∙◌, inl, inr, arith, true≢false}
use Rattle.std.proofs.lemmas.Bool.{or_parts}
use Rattle.std.proofs.lemmas.List.{take_all, take_more}
use Rattle.std.proofs.lemmas.List.Folds.{list_any-append}
use Rattle.std.proofs.lemmas.List.Sums.{sum_by-cons, sum_by-take-le, sum_by_push}
use Rattle.gate_base.specs.Maps.{Names, name_cmp}
use Rattle.gate_base.proofs.lemmas.Maps.{apart_back, by_name, key_itself, same_key}
use Rattle.swift_calls.specs.Account.{SwiftAccount}
use Rattle.swift_calls.specs.History.{History, present}
use Rattle.upload_records.specs.Native.{IsSettled}
use Rattle.account_calls.specs.declared.fault.PlanFault.{PlanFault}
use Rattle.account_calls.specs.Calls.{by_account, Asks}
use Rattle.account_calls.specs.Listing.{HasNames}
use Rattle.account_calls.proofs.lemmas.Ascending.{Ascends, keys_ascend}
use Rattle.account_calls.proofs.lemmas.Quiet.{asks_untold}
use Rattle.sweep.specs.declared.account.Swept.{Swept}
use Rattle.leftovers.specs.declared.fault.SweepFault.{SweepFault}
use Rattle.sweep.specs.Containers.{name_calls, HasListed, SparesOthers, SweepsName}
use Rattle.leftovers.specs.Leftovers.{Leftovers, left_by, left_in, left_there, leftovers, nothing_left}
use Rattle.leftovers.specs.Sides.{side_of}
use Rattle.sweep.specs.Swept.{removed, TellsSwept}
use Rattle.leftovers.specs.Faults.{plan_of, as_plan}
use Rattle.sweep.specs.Walk.{IsTableOf, added, count_removed, names_calls, CountsNoRecords, Spares, SweepsNames, Tallies}
use Rattle.sweep.proofs.Beside.{asks_made, asks_none, swept_of}
use Rattle.leftovers.proofs.lemmas.Faults.{plan_err}
use Rattle.leftovers.proofs.lemmas.Joined.{asks_then_by}
use Rattle.sweep.proofs.SideNames.{bytes_apart}
use Rattle.sweep.proofs.SparedSides.{others_same, others_then}
use Rattle.sweep.proofs.Spared.{bucket_spared, calls_same, left_same, name_spares, spares_none, spares_then}

-- ---- names in a list

abbrev pub is_in : List (List ℕ) → List ℕ → Bool
is_in names name = list_any (eq_by_cmp name_cmp name) names

pub take_none : {X : Type 0} (xs : List X) → take 0 xs ≡ []
take_none [] = refl
take_none (x ∷ xs) = refl

or_true : (a : Bool) → (a || true) ≡ true
or_true true = refl
or_true false = refl

pub in_at : (names : List (List ℕ)) (i : ℕ) (name : List ℕ) → i < length names → name ≡ get_or names i name → is_in names name ≡ true
in_at [] i name within is = absurd (omega (arith, within))
in_at (x ∷ names) zero name within is = ap (λ t. t || is_in names name) (ap (eq_by_cmp name_cmp name) (sym is) ∙ key_itself by_name name)
in_at (x ∷ names) (suc i) name within is = ap (λ t. eq_by_cmp name_cmp name x || t) (in_at names i name (omega (arith, within)) is) ∙ or_true (eq_by_cmp name_cmp name x)

less_at : (x : List ℕ) (names : List (List ℕ)) (i : ℕ) (name : List ℕ) → i < length names → name ≡ get_or names i name → AllByRecursion (λ y. name_cmp x y ≡ Less) names → name_cmp x name ≡ Less
less_at x [] i name within is all = absurd (omega (arith, within))
less_at x (y ∷ names) zero name within is all = ap (name_cmp x) is ∙ all.0
less_at x (y ∷ names) (suc i) name within is all = less_at x names i name (omega (arith, within)) is all.1

-- a name isn't among those before it
pub off_front : (names : List (List ℕ)) (i : ℕ) (name : List ℕ) → Ascends names → i < length names → name ≡ get_or names i name → is_in (take i names) name ≡ false
off_front [] i name up within is = absurd (omega (arith, within))
off_front (x ∷ names) zero name up within is = refl
off_front (x ∷ names) (suc i) name up within is =
    let apart = apart_back by_name x name (ap is_eq (less_at x names i name (omega (arith, within)) is up.0)) in
    ap (λ t. t || is_in (take i names) name) apart ∙ off_front names i name up.1 (omega (arith, within)) is

-- ---- the containers of some names were swept

pub record NamesSwept (done : List (List ℕ)) (old new : SwiftAccount) (swept : Swept) : Type 0 where
  pub settled : IsSettled new
  pub spares : Spares old new
  pub stays : (name : List ℕ) → is_in done name ≡ false → get new name ≡ get old name
  pub none : (name : List ℕ) → is_in done name ≡ true → left_in new name ≡ nothing_left
  pub segments : swept.segments ≡ sum_by (λ n. (left_in old n).segments) done
  pub records : swept.records ≡ sum_by (λ n. (left_in old n).records) done
  pub containers : swept.containers ≡ sum_by (λ n. (left_in old n).containers) done

names_none : (tree : SwiftAccount) → IsSettled tree → NamesSwept [] tree tree (swept_of 0 0 0)
names_none tree settled = record {
  settled = settled;
  spares = spares_none tree;
  stays = λ name off. refl;
  none = λ name on. absurd (true≢false (sym on));
  segments = refl;
  records = refl;
  containers = refl;
}

-- one more was
module _ (done : List (List ℕ)) (name : List ℕ) {old new last : SwiftAccount} {swept one : Swept} (before : NamesSwept done old new swept) (off : is_in done name ≡ false) (told : SweepsName name new last one) where
  left_was : removed one ≡ left_in old name
  left_was = told.counted ∙ left_same before.spares name (before.stays name off)

  one_more : (f : Leftovers → ℕ) {n m : ℕ} → n ≡ sum_by (λ k. f (left_in old k)) done → m ≡ f (left_in old name) → n + m ≡ sum_by (λ k. f (left_in old k)) (done ++ name ∷ [])
  one_more f first then = (λ i. first i + then i) ∙ sym (sum_by_push (λ k. f (left_in old k)) done name)

  in_parts : (n : List ℕ) → is_in (done ++ name ∷ []) n ≡ (is_in done n || (eq_by_cmp name_cmp n name || false))
  in_parts n = list_any-append (eq_by_cmp name_cmp n) done (name ∷ [])

  still_none : (n : List ℕ) → is_in (done ++ name ∷ []) n ≡ true → left_in last n ≡ nothing_left
  still_none n on = elim (same_key by_name n name) [
    | inl e ↦ ap (left_in last) e ∙ told.none
    | inr apart ↦
        let here : is_in done n ≡ true = or_false (is_in done n) (ap (λ t. is_in done n || (t || false)) (sym apart) ∙ sym (in_parts n) ∙ on) in
        left_same (name_spares name told) n (told.others n (bytes_apart n name apart)) ∙ before.none n here
  ]
    where
      or_false : (a : Bool) → (a || false) ≡ true → a ≡ true
      or_false true e = refl
      or_false false e = e

  still_stays : (n : List ℕ) → is_in (done ++ name ∷ []) n ≡ false → get last n ≡ get old n
  still_stays n not =
      let parts = or_parts (is_in done n) (eq_by_cmp name_cmp n name || false) (sym (in_parts n) ∙ not) in
      told.others n (bytes_apart n name (or_parts (eq_by_cmp name_cmp n name) false parts.1).0) ∙ before.stays n parts.0

  pub names_more : IsSettled last → NamesSwept (done ++ name ∷ []) old last (added swept one)
  names_more settled = record {
    settled = settled;
    spares = spares_then before.spares (name_spares name told);
    stays = still_stays;
    none = still_none;
    segments = one_more (λ l. l.segments) before.segments (ap (λ (l : Leftovers). l.segments) left_was);
    records = one_more (λ l. l.records) before.records (ap (λ (l : Leftovers). l.records) left_was);
    containers = one_more (λ l. l.containers) before.containers (ap (λ (l : Leftovers). l.containers) left_was);
  }

-- all were
sum_none : (f : List ℕ → ℕ) → ((name : List ℕ) → f name ≡ 0) → (names : List (List ℕ)) → sum_by f names ≡ 0
sum_none f none [] = refl
sum_none f none (x ∷ names) = let rest = sum_none f none names in let one = none x in omega (arith, sum_by-cons f x names, rest, one)

all_none : {old new : SwiftAccount} {swept : Swept} → NamesSwept (keys old) old new swept → (name : List ℕ) → left_in new name ≡ nothing_left
all_none {old = old} {new = new} told name = by (is_in (keys old) name) refl
  where
    by : (t : Bool) → is_in (keys old) name ≡ t → left_in new name ≡ nothing_left
    by true on = told.none name on
    by false not = ap (λ t. left_there t (left_by new name (side_of name))) (ap is_some (told.stays name not) ∙ contains_key-keys old name ∙ not)

all_swept : {old new : SwiftAccount} {swept : Swept} → NamesSwept (keys old) old new swept → TellsSwept old new swept
unfolding leftovers
all_swept {old = old} {new = new} told = record {
  counted =
      let segments = told.segments in
      let records = told.records in
      let containers = told.containers in
      λ i. record { segments = segments i; records = records i; containers = containers i };
  clean =
      let segments = sum_none (λ n. (left_in new n).segments) (λ n. ap (λ (l : Leftovers). l.segments) (all_none told n)) (keys new) in
      let records = sum_none (λ n. (left_in new n).records) (λ n. ap (λ (l : Leftovers). l.records) (all_none told n)) (keys new) in
      let containers = sum_none (λ n. (left_in new n).containers) (λ n. ap (λ (l : Leftovers). l.containers) (all_none told n)) (keys new) in
      λ i. record { segments = segments i; records = records i; containers = containers i };
}

names_all : {old new : SwiftAccount} {swept : Swept} → NamesSwept (keys old) old new swept → SweepsNames old new swept
names_all told = record { sweeps = all_swept told; spares = told.spares }

-- ---- the calls

-- they leave a settled account settled
asks_settled : {n : ℕ} {a b : History} {given : SwiftAccount → Type 0} {P : SwiftAccount → SwiftAccount → Swept → Type 0} → ((tree : SwiftAccount) → given tree → IsSettled tree)
    → (result : Result Swept PlanFault) → Asks (by_account n) a b given P result → Asks (by_account n) a b given (λ old new y. P old new y × IsSettled new) result
asks_settled settled (Ok y) asks = record {
  grows = asks.grows;
  cause = asks.cause;
  effect = λ met. let keeps = asks.effect met in (keeps.0, keeps.1, (keeps.2, asks.settled met.observable (settled _ met.has)));
  settled = asks.settled;
}
asks_settled settled (Err f) asks = asks_untold f asks

-- a larger bound
asks_more : {T : Type 0} {n m : ℕ} {a b : History} {given : SwiftAccount → Type 0} {P : SwiftAccount → SwiftAccount → T → Type 0} {result : Result T PlanFault} → n ≤ m → Asks (by_account n) a b given P result → Asks (by_account m) a b given P result
asks_more more asks = record {
  grows = record { on = asks.grows.on; calls = λ met. let near = asks.grows.calls met in omega (arith, near, more) };
  cause = asks.cause;
  effect = asks.effect;
  settled = asks.settled;
}

one_within : (p q r m : ℕ) → r ≡ p + q → m ≡ q → p + m ≤ r
one_within p q r m whole same = omega (arith, whole, same)

-- the first names were swept
pub record Sweeping (a b : History) (names : List (List ℕ)) (i : ℕ) (swept : Swept) : Type 0 where
  pub asks : Asks (by_account (names_calls (present a) (take i names))) a b (HasNames names) (NamesSwept (take i names)) (Ok swept)
  pub paid : a.called + count_removed swept ≤ b.called
  pub fits : count_removed swept < 2 ^ 64
  pub leaves : CountsNoRecords swept
  pub spared : SparesOthers a b

pub sweeping_none : (a : History) (names : List (List ℕ)) → Sweeping a a names 0 (swept_of 0 0 0)
sweeping_none a names = record {
  asks = asks_none (by_account (names_calls (present a) (take 0 names))) a (swept_of 0 0 0) (λ tree sound has. subst (λ done. NamesSwept done tree tree (swept_of 0 0 0)) (sym (take_none names)) (names_none tree has.settled));
  paid = omega arith;
  fits = omega arith;
  leaves = record { migrated = refl; forgotten = refl };
  spared = others_same a;
}

module _ {a b : History} (names : List (List ℕ)) (i : ℕ) {swept : Swept} (sweeping : Sweeping a b names i swept) where
  module _ (name : List ℕ) (within : i < length names) (is : name ≡ get_or names i name) (table : Names Bool) (tabled : IsTableOf table names) where
    more : take (i + 1) names ≡ take i names ++ name ∷ []
    more = take_more names i name within ∙ ap (λ x. take i names ++ x ∷ []) (sym is)

    off : (tree : SwiftAccount) → HasNames names tree → is_in (take i names) name ≡ false
    off tree has = off_front names i name (subst Ascends (sym has.all) (keys_ascend tree)) within is

    there : (tree : SwiftAccount) → HasNames names tree → is_some (get tree name) ≡ true
    there tree has = contains_key-keys tree name ∙ ap (λ ns. is_in ns name) (sym has.all) ∙ in_at names i name within is

    next : {c : History} (result : Result Swept PlanFault) → Asks (by_account (name_calls (present b) name)) b c (HasListed table name) (SweepsName name) result
        → Asks (by_account (names_calls (present a) (take i names ++ name ∷ []))) a c (HasNames names) (λ old last y. NamesSwept (take i names ++ name ∷ []) old last (added swept y)) result
    next result then =
        asks_then_by sweeping.asks (asks_settled (λ tree has. has.settled) result then)
        (λ old new sound alike has told. record {
          settled = told.settled;
          there = ap is_some (told.stays name (off old has)) ∙ there old has;
          listed = λ bucket of_bucket. tabled bucket ∙ ap (λ ns. is_in ns bucket) has.all ∙ sym (contains_key-keys old bucket) ∙ ap is_some (sym (bucket_spared told.spares bucket of_bucket));
        })
        (λ old new last y sound has told swept_one. names_more (take i names) name told (off old has) swept_one.0 swept_one.1)
        (λ met told.
        let same = calls_same told.spares name (told.stays name (off (present a) met.has)) in
        one_within (names_calls (present a) (take i names)) (name_calls (present a) name) (names_calls (present a) (take i names ++ name ∷ [])) (name_calls (present b) name) (sum_by_push (name_calls (present a)) (take i names) name) same)

    -- one more was
    pub sweeping_more : {c : History} (one : Swept) → Asks (by_account (name_calls (present b) name)) b c (HasListed table name) (SweepsName name) (Ok one) → Tallies b.called c.called one → SparesOthers b c → Sweeping a c names (i + 1) (added swept one)
    sweeping_more {c = c} one then tallied spares = record {
      asks = subst (λ done. Asks (by_account (names_calls (present a) done)) a c (HasNames names) (NamesSwept done) (Ok (added swept one))) (sym more) (asks_made (added swept one) (λ old new sound has told. told) (next (Ok one) then));
      paid = let before = sweeping.paid in let paid = tallied.paid in omega (arith, before, paid);
      fits = elim (tallied.fits) [
        | inl none ↦ let before = sweeping.fits in omega (arith, before, none)
        | inr fits ↦ let before = sweeping.paid in omega (arith, before, fits)
      ];
      leaves = record { migrated = sweeping.leaves.migrated; forgotten = sweeping.leaves.forgotten };
      spared = others_then sweeping.asks.grows.on sweeping.spared spares;
    }

    -- or it wasn't
    pub sweeping_fault : {c : History} (f : SweepFault) → Asks (by_account (name_calls (present b) name)) b c (HasListed table name) (SweepsName name) (Err (plan_of f))
        → (result : Result Swept SweepFault) → IsErrAnd result (λ e. e ≡ f) → Asks (by_account (names_calls (present a) names)) a c (HasNames names) SweepsNames (as_plan result)
    sweeping_fault {c = c} f then result gives =
        let few : names_calls (present a) (take i names ++ name ∷ []) ≤ names_calls (present a) names = subst (λ done. names_calls (present a) done ≤ names_calls (present a) names) more (sum_by-take-le (name_calls (present a)) names (i + 1)) in
        subst (Asks (by_account (names_calls (present a) names)) a c (HasNames names) SweepsNames) (sym (plan_err result f gives)) (asks_untold (plan_of f) (asks_more few (next (Err (plan_of f)) then)))

  pub sweeping_fits : {p q : ℕ} (one : Swept) → b.called ≡ p → Tallies p q one → count_removed swept + count_removed one < 2 ^ 64
  sweeping_fits one at tallied = elim (tallied.fits) [
    | inl none ↦ let before = sweeping.fits in omega (arith, before, none)
    | inr fits ↦ let before = sweeping.paid in omega (arith, before, fits, at)
  ]

  -- all were
  pub sweeping_all : length names ≤ i → Asks (by_account (names_calls (present a) names)) a b (HasNames names) SweepsNames (Ok swept)
  sweeping_all far =
      let all = take_all i names far in
      asks_made swept (λ old new sound has told. names_all (subst (λ done. NamesSwept done old new swept) (all ∙ has.all) told))
      (subst (λ done. Asks (by_account (names_calls (present a) done)) a b (HasNames names) (NamesSwept (take i names)) (Ok swept)) all sweeping.asks)

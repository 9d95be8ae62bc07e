-- What is made of what calls told of the account: another thing, or a part of a longer stretch of calls.
use Rattle.std.specs.Prelude.{◌≡◌, ◌≢◌, ◌≤◌, ◌<◌, ◌+◌, ℕ, true, false, cond, List, [], length, Result, Ok, Err}
use Rattle.std.specs.Result.{IsErrAnd}
use Rattle.std.specs.Option.{unwrap_or}
use Rattle.std.proofs.Common.{refl, sym, ap, subst, ◌∙◌, inl, inr, arith}
use Rattle.s3_names.specs.Bucket.{is_bucket}
use Rattle.slo_manifest.specs.declared.Segment.{Segment}
use Rattle.swift_calls.specs.Account.{SwiftAccount}
use Rattle.swift_calls.specs.Bodies as bodies
use Rattle.swift_calls.specs.History.{History, present}
use Rattle.upload_records.specs.Consistent.{IsConsistent}
use Rattle.upload_records.specs.Laws.{ObjectListed}
use Rattle.account_calls.specs.Answers.{listed_in}
use Rattle.account_calls.specs.Calls.{Bound, always, by_account, Asks, Given, GivenOf, HasObject, Keeps}
use Rattle.account_calls.specs.Interpret.{Gives}
use Rattle.account_calls.specs.Listing.{TellsOf}
use Rattle.account_calls.specs.declared.fault.PlanFault.{PlanFault}
use Rattle.account_calls.specs.declared.fault.PlanFault.TheVariants as fault
use Rattle.account_calls.specs.declared.fault.PlanFault.TheVariants.{Inconsistent}
use Rattle.account_calls.proofs.lemmas.Causes.{due_cause}
use Rattle.account_calls.proofs.lemmas.Idle.{grows_none, none_made}
use Rattle.account_calls.proofs.lemmas.Quiet.{asks_failed, asks_then, told_here}
use Rattle.many_keys.specs.CopiedLists.{HasListed, HasSubs, ListsSegments, TellsCut, TellsRuns, cut_by, cut_of, is_cut, list_id, lists_subs, subs_in, subs_listed}
use Rattle.many_keys.specs.declared.cut.Cut.{Cut}
use Rattle.many_keys.specs.declared.cut.Piece.{Piece}
use Rattle.many_keys.proofs.CutCalls.{direct_read, runs_read, subs_few, subs_here}

-- ---- what is made of what calls told

-- what they told comes to what is wanted
pub asks_due_of : {T U : Type 0} {most : Bound} {a b : History} {given : SwiftAccount → Type 0} {P : SwiftAccount → T → Type 0} {Q : SwiftAccount → U → Type 0} {x : T} (result : Result U PlanFault) → result ≢ Err fault.Failed
    → ((tree : SwiftAccount) → IsConsistent tree → given tree → P tree x → (y : U) × (result ≡ Ok y) × Q tree y) → Asks most a b given (TellsOf P) (Ok x) → Asks most a b given (TellsOf Q) result
asks_due_of {a = a} {b = b} {given = given} {Q = Q} result own does asks = record {
  grows = asks.grows;
  cause = due_cause a.faults b.faults result asks.cause own;
  effect = λ met.
      let keeps = asks.effect met in
      let from : b.account_at a.called ≡ present a = (asks.grows.on.kept met.observable).accounts a.called (omega arith) in
      let done = does (b.account_at a.called) (subst IsConsistent (sym from) met.sound) (subst given (sym from) met.has) keeps.2.of_account in
      subst (Keeps b a.called b.called (TellsOf Q)) (sym done.1) (keeps.0, keeps.1, record { of_account = done.2; same = keeps.2.same });
  settled = asks.settled;
}

-- no call was made
pub asks_start : (given : SwiftAccount → Type 0) (h : History) → Asks {T = Unit {0}} (always 0) h h given (λ old new done. new ≡ old) (Ok tt)
asks_start given h = record {
  grows = grows_none (always 0) given h;
  cause = refl;
  effect = λ met. (none_made refl met.sound, refl, refl);
  settled = λ observable settled. settled;
}

-- and what is wanted is known
pub asks_here : {T : Type 0} (n : ℕ) (h : History) (given : SwiftAccount → Type 0) (P : SwiftAccount → T → Type 0) (result due : Result T PlanFault) → Gives result due → result ≢ Err fault.Failed
    → ((tree : SwiftAccount) → IsConsistent tree → given tree → (y : T) × (due ≡ Ok y) × P tree y) → Asks (always n) h h given (TellsOf P) result
asks_here {T = T} n h given P result due gives own does = record {
  grows = grows_none (always n) given h;
  cause = due_cause h.faults h.faults result refl own;
  effect = λ met. by gives (does (present h) met.sound met.has) (none_made refl met.sound, refl);
  settled = λ observable settled. settled;
}
  where
    by : Gives result due → (y : T) × (due ≡ Ok y) × P (present h) y → Keeps h h.called h.called (TellsOf P) (Err fault.Memory) → Keeps h h.called h.called (TellsOf P) result
    by (inl memory) told kept = subst (Keeps h h.called h.called (TellsOf P)) (sym memory) kept
    by (inr is) told kept = subst (Keeps h h.called h.called (TellsOf P)) (sym (is ∙ told.1)) (kept.0, kept.1, record { of_account = told.2; same = refl })

-- more is given over a consistent account than the calls ask
pub asks_given : {T : Type 0} {n : ℕ} {a b : History} {given given' : SwiftAccount → Type 0} {P : SwiftAccount → SwiftAccount → T → Type 0} {result : Result T PlanFault} → ((tree : SwiftAccount) → IsConsistent tree → given' tree → given tree)
    → Asks (always n) a b given P result → Asks (always n) a b given' P result
asks_given {n = n} {a = a} {given = given} {given' = given'} {P = P} gives asks =
    asks_then {n = 0} {most = n} {R = P} {m = n} (omega arith) (asks_start given' a) asks
    (λ old new sound same has left. subst given (sym left) (gives old sound has))
    (λ old new last y sound has left told. subst (λ t. P t last y) left told)

-- a list that isn't one is no failure
no_failure : {T : Type 0} (result : Result T PlanFault) → result ≡ Err Inconsistent → result ≢ Err fault.Failed
no_failure result e failed = cc

-- the calls are counted by the account
counted : {T : Type 0} {a c : History} {given : SwiftAccount → Type 0} {P : SwiftAccount → SwiftAccount → T → Type 0} {result : Result T PlanFault} {k : ℕ} (n : ℕ) → ((met : IsConsistent (present a)) → given (present a) → k ≤ n)
    → Asks (always k) a c given P result → Asks (by_account n) a c given P result
counted n within asks = record {
  grows = record { on = asks.grows.on; calls = λ met. let near = asks.grows.calls in let few = within met.sound met.has in omega (arith, near, few) };
  cause = asks.cause;
  effect = asks.effect;
  settled = asks.settled;
}

-- ---- the lists of an object

module _ {bucket key etag : List ℕ} {size : ℕ} where
  pub list_then : (listed : List Segment) {walked : List Segment} {a b c : History} {result : Result Cut PlanFault} → walked ≡ listed → Asks (always 1) a b (Given (HasObject bucket key etag size)) (TellsOf (ListsSegments bucket key)) (Ok listed)
      → Asks (always (subs_in walked)) b c (GivenOf (HasListed bucket key etag size walked)) (TellsOf (TellsCut bucket key)) result
      → Asks (by_account (1 + subs_listed (present a) bucket key)) a c (Given (HasObject bucket key etag size)) (TellsOf (TellsCut bucket key)) result
  list_then listed {a = a} {b = b} {c = c} {result = result} walks first rest = record {
    grows = record {
      on = both.grows.on;
      calls = λ met.
          let told = told_here first met in
          let same : subs_listed (present a) bucket key ≡ subs_in listed = ap subs_in (ap listed_in told.of_account.there ∙ ap (λ k. unwrap_or (bodies.listed_in k) []) told.of_account.own) in
          let near = both.grows.calls in
          omega (arith, same, near);
    };
    cause = both.cause;
    effect = both.effect;
    settled = both.settled;
  }
    where
      then : Asks (always (subs_in listed)) b c (GivenOf (HasListed bucket key etag size listed)) (TellsOf (TellsCut bucket key)) result
      then = subst (λ (l : List Segment). Asks (always (subs_in l)) b c (GivenOf (HasListed bucket key etag size l)) (TellsOf (TellsCut bucket key)) result) walks rest

      both : Asks (always (1 + subs_in listed)) a c (Given (HasObject bucket key etag size)) (TellsOf (TellsCut bucket key)) result
      both = asks_then {R = TellsOf (TellsCut bucket key)} (omega arith) first then
          (λ old new sound same has told. subst (GivenOf (HasListed bucket key etag size listed)) (sym told.same) (record { settled = has.settled; is = record { object = has.is; lists = told.of_account } }))
          (λ old new last cut sound has told tells. record { of_account = subst (λ t. TellsCut bucket key t cut) told.same tells.of_account; same = tells.same ∙ told.same })

  pub list_fault : {a b : History} {f : PlanFault} → Asks (always 1) a b (Given (HasObject bucket key etag size)) (TellsOf (ListsSegments bucket key)) (Err f) → (result : Result Cut PlanFault) → IsErrAnd result (λ e. e ≡ f)
      → Asks (by_account (1 + subs_listed (present a) bucket key)) a b (Given (HasObject bucket key etag size)) (TellsOf (TellsCut bucket key)) result
  list_fault {a = a} asks result is =
      counted (1 + subs_listed (present a) bucket key) (λ sound has. omega arith) (asks_failed {most = 1} {R = TellsOf (TellsCut bucket key)} (omega arith) asks result is)

  module _ (law : ObjectListed) (listed : List Segment) (is : is_bucket bucket ≡ true) where
    -- it lists parts
    pub direct_asks : (h : History) (result : Result Cut PlanFault) → lists_subs listed ≡ false → Gives result (cut_by (is_cut size (cut_of listed)) (list_id listed) (cut_of listed)) → result ≢ Err fault.Failed
        → Asks (always (subs_in listed)) h h (GivenOf (HasListed bucket key etag size listed)) (TellsOf (TellsCut bucket key)) result
    direct_asks h result plain gives own =
        asks_here (subs_in listed) h (GivenOf (HasListed bucket key etag size listed)) (TellsCut bucket key) result (cut_by (is_cut size (cut_of listed)) (list_id listed) (cut_of listed)) gives own
        (λ tree sound given. let read = direct_read law tree bucket key etag size listed is sound given plain in
        (record { id = list_id listed; pieces = cut_of listed }, ap (λ t. cut_by t (list_id listed) (cut_of listed)) read.proper, read.tells))

    -- or sub-manifests
    pub as_subs : {a b : History} {result : Result Cut PlanFault} → lists_subs listed ≡ true → Asks (always (length listed)) a b (GivenOf (HasListed bucket key etag size listed)) (TellsOf (TellsCut bucket key)) result
        → Asks (always (subs_in listed)) a b (GivenOf (HasListed bucket key etag size listed)) (TellsOf (TellsCut bucket key)) result
    as_subs {a = a} {b = b} {result = result} are asks =
        subst (λ n. Asks (always n) a b (GivenOf (HasListed bucket key etag size listed)) (TellsOf (TellsCut bucket key)) result) (sym (ap (λ t. cond t (length listed) 0) are)) asks

    module _ (are : lists_subs listed ≡ true) where
      -- more than there can be
      pub too_many : (h : History) (result : Result Cut PlanFault) → result ≡ Err Inconsistent → 10 < length listed
          → Asks (always (length listed)) h h (GivenOf (HasListed bucket key etag size listed)) (TellsOf (TellsCut bucket key)) result
      too_many h result e many =
          asks_here (length listed) h (GivenOf (HasListed bucket key etag size listed)) (TellsCut bucket key) result (Err Inconsistent) (inr e) (no_failure result e)
          (λ tree sound given. absurd (let few = subs_few law tree bucket key etag size listed is sound given are in omega (arith, few, many)))

      gives_subs : (tree : SwiftAccount) → IsConsistent tree → GivenOf (HasListed bucket key etag size listed) tree → GivenOf (HasSubs bucket (list_id listed) (length listed)) tree
      gives_subs tree sound given = record { settled = given.settled; is = subs_here law tree bucket key etag size listed is sound given are }

      -- by the count and the id that were taken of the list
      as_asked : {k id : ℕ} {a b : History} {result : Result (List Piece) PlanFault} → k ≡ length listed → id ≡ list_id listed → Asks (always k) a b (GivenOf (HasSubs bucket id k)) (TellsOf (TellsRuns bucket id k)) result
          → Asks (always (length listed)) a b (GivenOf (HasListed bucket key etag size listed)) (TellsOf (TellsRuns bucket (list_id listed) (length listed))) result
      as_asked {a = a} {b = b} {result = result} counts names asks =
          asks_given gives_subs (subst {A = ℕ × ℕ} (λ p. Asks (always p.0) a b (GivenOf (HasSubs bucket p.1 p.0)) (TellsOf (TellsRuns bucket p.1 p.0)) result) (λ i. (counts i, names i)) asks)

      -- they weren't read
      pub subs_fault : {k id : ℕ} {a b : History} {f : PlanFault} → k ≡ length listed → id ≡ list_id listed → Asks (always k) a b (GivenOf (HasSubs bucket id k)) (TellsOf (TellsRuns bucket id k)) (Err f)
          → (result : Result Cut PlanFault) → IsErrAnd result (λ e. e ≡ f) → Asks (always (length listed)) a b (GivenOf (HasListed bucket key etag size listed)) (TellsOf (TellsCut bucket key)) result
      subs_fault counts names asks result same = asks_failed {n = length listed} {most = length listed} {R = TellsOf (TellsCut bucket key)} (omega arith) (as_asked counts names asks) result same

      -- they were
      pub subs_asks : {k id : ℕ} {a b : History} (pieces : List Piece) → k ≡ length listed → id ≡ list_id listed → Asks (always k) a b (GivenOf (HasSubs bucket id k)) (TellsOf (TellsRuns bucket id k)) (Ok pieces)
          → (result : Result Cut PlanFault) → result ≡ cut_by (is_cut size pieces) id pieces → result ≢ Err fault.Failed
          → Asks (always (length listed)) a b (GivenOf (HasListed bucket key etag size listed)) (TellsOf (TellsCut bucket key)) result
      subs_asks pieces counts names asks result due own =
          asks_due_of {P = TellsRuns bucket (list_id listed) (length listed)} {Q = TellsCut bucket key} result own
          (λ tree sound given told. let read = runs_read law tree bucket key etag size listed is sound given are pieces told in
          (record { id = list_id listed; pieces = pieces }, due ∙ ap (λ i. cut_by (is_cut size pieces) i pieces) names ∙ ap (λ t. cut_by t (list_id listed) pieces) read.proper, read.tells))
          (as_asked counts names asks)

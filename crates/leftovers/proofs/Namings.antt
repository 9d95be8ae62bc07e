-- The names that an object lists are added, segment by segment, and those that its sub-manifests list with them.
use Rattle.std.specs.Prelude.{◌≡◌, ◌≤◌, ◌<◌, ◌+◌, ◌||◌, ℕ, zero, suc, Bool, true, false, cond, not, bytes_eq, List, [], ◌∷◌, ◌++◌, length, take, get_or, is_some, Result, Ok, Err}
use Rattle.std.specs.Result.{IsErrAnd}
use Rattle.std.specs.List.{filter}
use Rattle.std.specs.FinMap.{get, insert}
use Rattle.std.proofs.Common.{refl, sym, ap, subst, ◌∙◌, arith}
use Rattle.std.proofs.lemmas.List.{take_all, take_more}
use Rattle.std.proofs.lemmas.List.Folds.{list_any-append}
use Rattle.gate_base.specs.Maps.{Names}
use Rattle.s3_names.specs.Bucket.{is_bucket}
use Rattle.slo_manifest.specs.declared.Segment.{Segment}
use Rattle.swift_calls.specs.Account.{SwiftAccount, files}
use Rattle.swift_calls.specs.History.{History}
use Rattle.swift_calls.specs.declared.heads.NameItem.{NameItem}
use Rattle.upload_records.specs.Layout.{segments_name}
use Rattle.upload_records.specs.Consistent.{IsConsistent}
use Rattle.account_calls.specs.declared.fault.PlanFault.{PlanFault}
use Rattle.account_calls.specs.declared.fault.PlanFault.TheVariants as fault
use Rattle.account_calls.specs.Calls.{always, Asks}
use Rattle.account_calls.specs.Listing.{TellsOf}
use Rattle.account_calls.proofs.lemmas.Ask.{asks_fault, asks_told}
use Rattle.account_calls.proofs.lemmas.Faults.{err_is}
use Rattle.account_calls.proofs.lemmas.Quiet.{asks_failed, told_here}
use Rattle.leftovers.specs.Gathering.{any_names, AreKnown, HasInner, HasItem, IsKnown, IsKnownBy, segments_at, sub_manifests_in, TellsAdded, TellsInner, TellsListing, TellsNamed}
use Rattle.leftovers.specs.Leftovers.{is_named_in, is_sub_manifest_name, names_segment}
use Rattle.leftovers.specs.declared.gathering.Source.TheVariants.{Objects}
use Rattle.leftovers.proofs.lemmas.Counted.{filter_append, subs_one}
use Rattle.leftovers.proofs.Gathers.{or_assoc, or_end, put_adds, reads_then}
use Rattle.leftovers.proofs.lemmas.Lists.{take_zero}
use Rattle.leftovers.proofs.Listings.{object_known}
use Rattle.leftovers.proofs.lemmas.Readings.{asks_idle}

-- ---- calls of which less is asked, or more

-- what is given and what is told may be others, whatever the answer
pub asks_over : {T : Type 0} {n : ℕ} {a b : History} {given given' : SwiftAccount → Type 0} {P Q : SwiftAccount → T → Type 0} (result : Result T PlanFault)
    → ((tree : SwiftAccount) → given' tree → given tree) → ((tree : SwiftAccount) (x : T) → IsConsistent tree → given' tree → P tree x → Q tree x)
    → Asks (always n) a b given (TellsOf P) result → Asks (always n) a b given' (TellsOf Q) result
asks_over (Ok x) gives tells asks = asks_told gives x (λ tree sound has told. tells tree x sound has told) asks
asks_over (Err f) gives tells asks = asks_fault gives asks (Err f) refl

-- and there may be more calls
pub asks_room : {T : Type 0} {n most : ℕ} {a b : History} {given : SwiftAccount → Type 0} {P : SwiftAccount → SwiftAccount → T → Type 0} {result : Result T PlanFault} → n ≤ most
    → Asks (always n) a b given P result → Asks (always most) a b given P result
asks_room within asks = record {
  grows = record { on = asks.grows.on; calls = let near = asks.grows.calls in omega (arith, near, within) };
  cause = asks.cause;
  effect = asks.effect;
  settled = asks.settled;
}

-- ---- one segment

-- a part names itself
pub part_named : (tree : SwiftAccount) (bucket : List ℕ) (s : Segment) (old new : Names Bool) (name : List ℕ) → name ≡ s.name → is_sub_manifest_name s.name ≡ false → IsKnown bucket s tree → new ≡ insert old name true
    → TellsNamed bucket (s ∷ []) old new tree tt
part_named tree bucket s old new name named not known grown text =
    let bare : segments_at tree (segments_name bucket) s.name ≡ [] = subst (λ t. IsKnownBy t bucket s tree) not known in
    ap (λ t. is_some (get t text)) grown ∙ put_adds old name text ∙ ap (λ n. is_some (get old text) || bytes_eq n text) named
    ∙ ap (λ b. is_some (get old text) || b)
    (sym (ap (λ l. (bytes_eq s.name text || is_named_in text l) || false) bare ∙ or_end (bytes_eq s.name text || false) ∙ or_end (bytes_eq s.name text)))

-- a sub-manifest names itself and what it lists
sub_named : (tree : SwiftAccount) (bucket : List ℕ) (s : Segment) (old mid new : Names Bool) (name : List ℕ) → name ≡ s.name → mid ≡ insert old name true → TellsInner bucket s.name mid new tree tt → TellsNamed bucket (s ∷ []) old new tree tt
sub_named tree bucket s old mid new name named grown inner text =
    let listed : Bool = is_named_in text (segments_at tree (segments_name bucket) s.name) in
    inner text
    ∙ ap (λ b. b || listed) (ap (λ t. is_some (get t text)) grown ∙ put_adds old name text ∙ ap (λ n. is_some (get old text) || bytes_eq n text) named)
    ∙ or_assoc (is_some (get old text)) (bytes_eq s.name text) listed
    ∙ ap (λ b. is_some (get old text) || b) (sym (or_end (bytes_eq s.name text || listed)))

pub sub_added : {a b : History} (bucket : List ℕ) (s : Segment) (old mid new : Names Bool) (name : List ℕ) → name ≡ s.name → is_sub_manifest_name s.name ≡ true → mid ≡ insert old name true → (result : Result (Unit {0}) PlanFault)
    → Asks (always 1) a b (HasInner bucket s) (TellsOf (TellsInner bucket s.name mid new)) result
    → Asks (always (sub_manifests_in (s ∷ []))) a b (IsKnown bucket s) (TellsOf (TellsNamed bucket (s ∷ []) old new)) result
sub_added bucket s old mid new name named so grown result asks =
    asks_room (omega (arith, subs_one s true so))
    (asks_over result (λ tree known. subst (λ t. IsKnownBy t bucket s tree) so known)
    (λ tree done sound has inner. sub_named tree bucket s old mid new name named grown inner) asks)

-- ---- segment by segment

known_at : (bucket : List ℕ) (tree : SwiftAccount) (list : List Segment) (i : ℕ) (s : Segment) → i < length list → s ≡ get_or list i s → AreKnown bucket list tree → IsKnown bucket s tree
known_at bucket tree [] i s within is known = absurd (omega (arith, within))
known_at bucket tree (x ∷ list) zero s within is known = subst (λ y. IsKnown bucket y tree) (sym is) known.0
known_at bucket tree (x ∷ list) (suc i) s within is known = known_at bucket tree list i s (omega (arith, within)) is known.1

counted_within : (list : List Segment) (i : ℕ) (s : Segment) → i < length list → s ≡ get_or list i s → sub_manifests_in (take i list) + sub_manifests_in (s ∷ []) ≤ sub_manifests_in list
counted_within [] i s within is = absurd (omega (arith, within))
counted_within (x ∷ list) zero s within is = subst (λ y. sub_manifests_in (take 0 (x ∷ list)) + sub_manifests_in (y ∷ []) ≤ sub_manifests_in (x ∷ list)) (sym is)
    (elim (is_sub_manifest_name x.name) as (λ t. 0 + length (cond t (x ∷ []) []) ≤ length (cond t (x ∷ filter (λ (y : Segment). is_sub_manifest_name y.name) list) (filter (λ (y : Segment). is_sub_manifest_name y.name) list))) [ true ↦ omega arith | false ↦ omega arith ])
counted_within (x ∷ list) (suc i) s within is =
    let rest = counted_within list i s (omega (arith, within)) is in
    let front = filter (λ (y : Segment). is_sub_manifest_name y.name) (take i list) in
    let all = filter (λ (y : Segment). is_sub_manifest_name y.name) list in
    elim (is_sub_manifest_name x.name) as (λ t. length (cond t (x ∷ front) front) + sub_manifests_in (s ∷ []) ≤ length (cond t (x ∷ all) all)) [ true ↦ omega (arith, rest) | false ↦ rest ]

module _ (bucket : List ℕ) (segments : List Segment) (old : Names Bool) where
  abbrev pub Naming : History → History → ℕ → Names Bool → Type 0
  Naming a b i table = Asks (always (sub_manifests_in (take i segments))) a b (AreKnown bucket segments) (TellsOf (TellsNamed bucket (take i segments) old table)) (Ok tt)

  pub naming_none : (a : History) → Naming a a 0 old
  naming_none a = asks_idle (always (sub_manifests_in (take 0 segments))) a tt (λ tree sound has text. sym (or_end (is_some (get old text))) ∙ ap (λ l. is_some (get old text) || any_names tree bucket text l) (sym (take_zero segments)))

  module _ {a b : History} {i : ℕ} (table : Names Bool) (naming : Naming a b i table) (s : Segment) (within : i < length segments) (is : s ≡ get_or segments i s) where
    more : take (i + 1) segments ≡ take i segments ++ s ∷ []
    more = take_more segments i s within ∙ ap (λ x. take i segments ++ x ∷ []) (sym is)

    pub naming_more : {c : History} (new : Names Bool) → Asks (always (sub_manifests_in (s ∷ []))) b c (IsKnown bucket s) (TellsOf (TellsNamed bucket (s ∷ []) table new)) (Ok tt) → Naming a c (i + 1) new
    naming_more new one = reads_then (omega (arith, ap sub_manifests_in more, filter_append (λ (x : Segment). is_sub_manifest_name x.name) (take i segments) (s ∷ []))) naming one
        (λ tree sound has told. known_at bucket tree segments i s within is has)
        (λ tree done sound has first then text.
        then text ∙ ap (λ t. t || any_names tree bucket text (s ∷ [])) (first text)
        ∙ or_assoc (is_some (get old text)) (any_names tree bucket text (take i segments)) (any_names tree bucket text (s ∷ []))
        ∙ ap (λ t. is_some (get old text) || t) (sym (ap (any_names tree bucket text) more ∙ list_any-append (names_segment (files tree (segments_name bucket)) text) (take i segments) (s ∷ []))))

    pub naming_fault : {c : History} (new : Names Bool) {f : PlanFault} {Q : SwiftAccount → Unit {0} → Type 0} → Asks (always (sub_manifests_in (s ∷ []))) b c (IsKnown bucket s) (TellsOf Q) (Err f) → (result : Result (Unit {0}) PlanFault) → IsErrAnd result (λ e. e ≡ f)
        → Asks (always (sub_manifests_in segments)) a c (AreKnown bucket segments) (TellsOf (TellsNamed bucket segments old new)) result
    naming_fault {c = c} new {f = f} one result gives =
        subst (Asks (always (sub_manifests_in segments)) a c (AreKnown bucket segments) (TellsOf (TellsNamed bucket segments old new))) (sym (err_is result f gives))
        (reads_then (counted_within segments i s within is) naming (asks_failed {R = TellsOf (λ tree done. ⊥)} (omega arith) one (Err f) refl) (λ tree sound has told. known_at bucket tree segments i s within is has) (λ tree done sound has first never. absurd never))

  pub naming_all : {a b : History} {i : ℕ} (table : Names Bool) → length segments ≤ i → Naming a b i table → Asks (always (sub_manifests_in segments)) a b (AreKnown bucket segments) (TellsOf (TellsNamed bucket segments old table)) (Ok tt)
  naming_all {a = a} {b = b} table far naming =
      subst (λ l. Asks (always (sub_manifests_in l)) a b (AreKnown bucket segments) (TellsOf (TellsNamed bucket l old table)) (Ok tt)) (take_all _ segments far) naming

-- ---- an object

module _ {a b : History} (bucket : List ℕ) (item : NameItem) (is : is_bucket bucket ≡ true) {segments : List Segment} (first : Asks (always 1) a b (HasItem bucket bucket item) (TellsOf (TellsListing bucket item.name)) (Ok segments)) where
  -- one that lists more sub-manifests than an object has
  pub object_refused : {T : Type 0} {Q : SwiftAccount → T → Type 0} (handed : List Segment) → handed ≡ segments → 10 < sub_manifests_in handed → Asks (always 11) a b (HasItem bucket bucket item) (TellsOf Q) (Err fault.Inconsistent)
  object_refused handed same many = record {
    grows = record { on = first.grows.on; calls = let near = first.grows.calls in omega (arith, near) };
    cause = first.cause;
    effect = λ met.
        let known = (object_known _ bucket item is met.sound met.has).1 in
        let told = (told_here first met).of_account in
        absurd (omega (arith, known, many, ap sub_manifests_in (same ∙ told)));
    settled = first.settled;
  }

  pub object_added : {c : History} (handed : List Segment) (old new : Names Bool) → handed ≡ segments → sub_manifests_in handed ≤ 10 → (result : Result (Unit {0}) PlanFault)
      → Asks (always (sub_manifests_in handed)) b c (AreKnown bucket handed) (TellsOf (TellsNamed bucket handed old new)) result
      → Asks (always 11) a c (HasItem bucket bucket item) (TellsOf (TellsAdded Objects bucket (item.name ∷ []) old new)) result
  object_added handed old new same few result then =
      reads_then {m = sub_manifests_in handed} (omega (arith, few)) first then
      (λ tree sound has told. subst (λ l. AreKnown bucket l tree) (sym (same ∙ told)) (object_known tree bucket item is sound has).0)
      (λ tree done sound has told named text.
      named text ∙ ap (λ l. is_some (get old text) || any_names tree bucket text l) (same ∙ told)
      ∙ ap (λ t. is_some (get old text) || t) (sym (or_end (any_names tree bucket text (segments_at tree bucket item.name)))))

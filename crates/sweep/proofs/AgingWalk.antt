-- The loop over pages of the records beside a bucket.
use Rattle.std.specs.Prelude.{◌≡◌, ◌≤◌, ◌<◌, ◌+◌, ℕ, true, List, [], ◌∷◌, ◌++◌, length, take, drop, Option, None, Some, Result, Ok, Err}
use Rattle.std.specs.Result.{IsErrAnd}
use Rattle.std.specs.FinMap.{len-entries, entries}
use Rattle.std.proofs.Common.{refl, sym, ap, subst, ◌∙◌, arith}
use Rattle.std.proofs.Math.Seq.{take-add}
use Rattle.std.proofs.lemmas.List.{length-map, take-append-drop}
use Rattle.s3_names.specs.Bucket.{is_bucket}
use Rattle.swift_calls.specs.Account.{SwiftAccount, files}
use Rattle.swift_calls.specs.History.{History, present}
use Rattle.upload_records.specs.Layout.{uploads_name}
use Rattle.upload_records.specs.Consistent.{IsConsistent}
use Rattle.account_calls.specs.declared.fault.PlanFault.{PlanFault}
use Rattle.account_calls.specs.Calls.{Met}
use Rattle.sweep.specs.declared.forget.Aged.{Aged}
use Rattle.sweep.specs.Aging.{AreDistinct, Forgetting, MakesForgetCalls, PaysForgetting, TellsAged, TellsAgedPage, TellsBeside, TurnsBy, aging_calls, forget_after, forget_calls, forget_left, ids_beside, old_among, old_beside, page_of}
use Rattle.leftovers.specs.Gathering.{names_after}
use Rattle.leftovers.specs.Segments.{HasSettled}
use Rattle.sweep.proofs.AgesMany.{AreApart, ages_none, distinct_parts, olds_append, olds_join, tells_then}
use Rattle.sweep.proofs.AgingItems.{settled_after}
use Rattle.sweep.proofs.ForgetCalls.{forgetting_failed, forgetting_idle, forgetting_then, forgetting_told, forgot_here, sound_here}
use Rattle.sweep.proofs.PageNames.{all_names, apart_take, distinct_keys, drop_more}

take_nothing : (xs : List (List ℕ)) → take 0 xs ≡ []
take_nothing [] = refl
take_nothing (x ∷ xs) = refl

drop_nothing : (xs : List (List ℕ)) → drop 0 xs ≡ xs
drop_nothing [] = refl
drop_nothing (x ∷ xs) = refl

-- the first of all names, and the rest after the marker
abbrev pub first_of : List ℕ → ℕ → SwiftAccount → List (List ℕ)
first_of bucket n tree = take n (ids_beside bucket tree)

pub record TellsSoFar (before : ℕ) (bucket marker : List ℕ) (n : ℕ) (old new : SwiftAccount) (told : Aged) : Type 0 where
  pub aged : TellsAged before bucket (first_of bucket n old) old new told
  pub rest : names_after (uploads_name bucket) marker new ≡ drop n (ids_beside bucket old)

abbrev pub olds_so_far : ℕ → List ℕ → ℕ → SwiftAccount → List (List ℕ × List ℕ)
olds_so_far before bucket n tree = old_among before bucket (first_of bucket n tree) tree

pub record Walked (a b : History) (before : ℕ) (bucket marker : List ℕ) (f m : ℕ) : Type 0 where
  pub n : ℕ
  pub forgets : Forgetting a b (HasSettled bucket) (olds_so_far before bucket n) (TellsSoFar before bucket marker n) (Ok (record { forgotten = f; migrated = m }))
  pub counted : a.called + (f + m) ≤ b.called
  pub paid : Met (HasSettled bucket) a → b.called + forget_after bucket marker (present b) ≤ a.called + forget_after bucket [] (present a)

pub walked_none : (a : History) (before : ℕ) (bucket : List ℕ) → Walked a a before bucket [] 0 0
walked_none a before bucket = record {
  n = 0;
  forgets = forgetting_idle {given = HasSettled bucket} {olds = olds_so_far before bucket 0} {P = TellsSoFar before bucket [] 0} a (record { forgotten = 0; migrated = 0 })
      (λ tree sound has. ap (λ l. old_among before bucket l tree) (take_nothing (ids_beside bucket tree)))
      (λ tree sound has. record {
        aged = subst (λ l. TellsAged before bucket l tree tree (record { forgotten = 0; migrated = 0 })) (sym (take_nothing (ids_beside bucket tree))) (record { ages = ages_none before bucket tree; settled = has.settled; forgotten = refl; migrated = refl });
        rest = all_names tree (uploads_name bucket) sound ∙ sym (drop_nothing (ids_beside bucket tree));
      });
  counted = omega arith;
  paid = λ met. omega arith;
}

calls_are : (bucket : List ℕ) (tree : SwiftAccount) → IsConsistent tree → forget_after bucket [] tree ≡ forget_calls bucket tree
calls_are bucket tree sound = ap aging_calls (ap length (all_names tree (uploads_name bucket) sound) ∙ length-map (entries (files tree (uploads_name bucket))) (λ e. e.0) ∙ sym (len-entries (files tree (uploads_name bucket))))

module _ {a b : History} {before : ℕ} {bucket marker : List ℕ} {f m : ℕ} (is_b : is_bucket bucket ≡ true) (walked : Walked a b before bucket marker f m) where
  apart_here : (old new : SwiftAccount) → TellsSoFar before bucket marker walked.n old new (record { forgotten = f; migrated = m }) → AreApart (first_of bucket walked.n old) (page_of bucket marker new)
  apart_here old new told =
      let parts = distinct_parts (first_of bucket walked.n old) (drop walked.n (ids_beside bucket old))
      (subst AreDistinct (sym (take-append-drop walked.n (ids_beside bucket old))) (distinct_keys (files old (uploads_name bucket)))) in
      apart_take 1000 (first_of bucket walked.n old) (names_after (uploads_name bucket) marker new) (subst (AreApart (first_of bucket walked.n old)) (sym told.rest) parts.2)

  names_here : (old new : SwiftAccount) → TellsSoFar before bucket marker walked.n old new (record { forgotten = f; migrated = m }) → first_of bucket (walked.n + 1000) old ≡ first_of bucket walked.n old ++ page_of bucket marker new
  names_here old new told = take-add walked.n 1000 (ids_beside bucket old) ∙ ap (λ l. first_of bucket walked.n old ++ take 1000 l) (sym told.rest)

  met_here : Met (HasSettled bucket) a → Met (HasSettled bucket) b
  met_here met =
      let told = forgot_here walked.forgets met in
      record { observable = walked.forgets.on.observable met.observable; sound = sound_here walked.forgets met; has = settled_after is_b told.aged.ages told.aged.settled met.has }

  abbrev RestBy : SwiftAccount → SwiftAccount → Option (List ℕ) → Type 0
  RestBy old last None = first_of bucket (walked.n + 1000) old ≡ ids_beside bucket old
  RestBy old last (Some next) = names_after (uploads_name bucket) next last ≡ drop (walked.n + 1000) (ids_beside bucket old)

  rest_by : (old new last : SwiftAccount) → TellsSoFar before bucket marker walked.n old new (record { forgotten = f; migrated = m }) → (next : Option (List ℕ)) → TurnsBy bucket marker new last next → RestBy old last next
  rest_by old new last told None turns =
      names_here old new told ∙ ap (λ l. first_of bucket walked.n old ++ l) (turns ∙ told.rest) ∙ take-append-drop walked.n (ids_beside bucket old)
  rest_by old new last told (Some next) turns = turns.stays ∙ turns.rest ∙ ap (drop 1000) told.rest ∙ sym (drop_more walked.n 1000 (ids_beside bucket old))

  -- what is told after a page
  pub record TellsMore (next : Option (List ℕ)) (old last : SwiftAccount) (told : Aged) : Type 0 where
    pub aged : TellsAged before bucket (first_of bucket (walked.n + 1000) old) old last (record { forgotten = f + told.forgotten; migrated = m + told.migrated })
    pub rest : RestBy old last next

  rest_of : (tree : SwiftAccount) → old_beside before bucket tree ≡ olds_so_far before bucket (walked.n + 1000) tree ++ old_among before bucket (drop (walked.n + 1000) (ids_beside bucket tree)) tree
  rest_of tree = ap (λ l. old_among before bucket l tree) (sym (take-append-drop (walked.n + 1000) (ids_beside bucket tree))) ∙ olds_append before bucket (first_of bucket (walked.n + 1000) tree) (drop (walked.n + 1000) (ids_beside bucket tree)) tree

  module _ {c : History} where
    page_more : (result : Result (Aged × Option (List ℕ)) PlanFault) → Forgetting b c (HasSettled bucket) (λ tree. old_among before bucket (page_of bucket marker tree) tree) (TellsAgedPage before bucket marker) result
        → Forgetting a c (HasSettled bucket) (olds_so_far before bucket (walked.n + 1000)) (λ old last (told : Aged × Option (List ℕ)). TellsMore told.1 old last told.0) result
    page_more result page =
        forgetting_then {given = HasSettled bucket} {rest = HasSettled bucket} {xs = olds_so_far before bucket walked.n} {ys = λ tree. old_among before bucket (page_of bucket marker tree) tree} {zs = olds_so_far before bucket (walked.n + 1000)}
        walked.forgets page
        (λ old new sound has told. settled_after is_b told.aged.ages told.aged.settled has)
        (λ old new sound after has told. ap (λ l. old_among before bucket l old) (names_here old new told) ∙ olds_join (first_of bucket walked.n old) told.aged.ages (page_of bucket marker new) (apart_here old new told))
        (λ old new last y sound has told next. record {
          aged = subst (λ l. TellsAged before bucket l old last (record { forgotten = f + y.0.forgotten; migrated = m + y.0.migrated })) (sym (names_here old new told))
              (tells_then (first_of bucket walked.n old) (page_of bucket marker new) (apart_here old new told) told.aged next.aged);
          rest = rest_by old new last told y.1 next.turns;
        })

    module _ {told : Aged} {next : Option (List ℕ)} (page : Forgetting b c (HasSettled bucket) (λ tree. old_among before bucket (page_of bucket marker tree) tree) (TellsAgedPage before bucket marker) (Ok (told, next)))
        (pays : PaysForgetting bucket marker b c (Ok (told, next))) (counted : b.called + (told.forgotten + told.migrated) < c.called) where
      counted_then : a.called + ((f + told.forgotten) + (m + told.migrated)) ≤ c.called
      counted_then = let so_far = walked.counted in omega (arith, so_far, counted)

      paid_then : Met (HasSettled bucket) a → c.called + forget_left bucket (present b) next ≤ a.called + forget_after bucket [] (present a)
      paid_then met = let so_far = walked.paid met in let one = pays (met_here met) in omega (arith, so_far, one)

      -- a page, and more behind it
      pub walked_more : (marker' : List ℕ) → next ≡ Some marker' → Walked a c before bucket marker' (f + told.forgotten) (m + told.migrated)
      walked_more marker' is = record {
        n = walked.n + 1000;
        forgets = forgetting_told {given = HasSettled bucket} {given' = HasSettled bucket} {xs = olds_so_far before bucket (walked.n + 1000)} {zs = olds_so_far before bucket (walked.n + 1000)} {R = TellsSoFar before bucket marker' (walked.n + 1000)}
            (record { forgotten = f + told.forgotten; migrated = m + told.migrated }) (λ tree has. has) (page_more (Ok (told, next)) page) (λ old new sound has tells. refl)
            (λ old new sound has tells. record { aged = tells.aged; rest = subst (RestBy old new) is tells.rest });
        counted = counted_then;
        paid = λ met.
            let turns = subst (TurnsBy bucket marker (present b) (present c)) is (forgot_here page (met_here met)).turns in
            let same = ap length turns.stays in
            let paid : c.called + forget_after bucket marker' (present b) ≤ a.called + forget_after bucket [] (present a) = subst (λ n. c.called + forget_left bucket (present b) n ≤ a.called + forget_after bucket [] (present a)) is (paid_then met) in
            subst (λ n. c.called + aging_calls n ≤ a.called + forget_after bucket [] (present a)) (sym same) paid;
      }

      -- the last page
      pub walked_end : next ≡ None → Forgetting a c (HasSettled bucket) (old_beside before bucket) (TellsBeside before bucket) (Ok (record { forgotten = f + told.forgotten; migrated = m + told.migrated }))
      walked_end is =
          forgetting_told {given = HasSettled bucket} {given' = HasSettled bucket} {xs = olds_so_far before bucket (walked.n + 1000)} {zs = old_beside before bucket} {R = TellsBeside before bucket}
          (record { forgotten = f + told.forgotten; migrated = m + told.migrated }) (λ tree has. has) (page_more (Ok (told, next)) page)
          (λ old new sound has tells. ap (λ l. old_among before bucket l old) (sym (subst (RestBy old new) is tells.rest)))
          (λ old new sound has tells. subst (λ l. TellsAged before bucket l old new (record { forgotten = f + told.forgotten; migrated = m + told.migrated })) (subst (RestBy old new) is tells.rest) tells.aged)

      pub calls_end : next ≡ None → MakesForgetCalls bucket a c
      calls_end is met = let paid = paid_then met in omega (arith, paid, calls_are bucket (present a) met.sound)

      pub counted_end : a.called + ((f + told.forgotten) + (m + told.migrated)) ≤ c.called
      counted_end = counted_then

    -- a page that wasn't told
    pub walked_fault : {fault : PlanFault} → Forgetting b c (HasSettled bucket) (λ tree. old_among before bucket (page_of bucket marker tree) tree) (TellsAgedPage before bucket marker) (Err fault)
        → (result : Result Aged PlanFault) → IsErrAnd result (λ e. e ≡ fault) → Forgetting a c (HasSettled bucket) (old_beside before bucket) (TellsBeside before bucket) result
    walked_fault {fault = fault} page result gives =
        forgetting_failed {given = HasSettled bucket} {given' = HasSettled bucket} {xs = olds_so_far before bucket (walked.n + 1000)} {zs = old_beside before bucket} (λ tree has. has) (page_more (Err fault) page)
        (λ tree sound has. (old_among before bucket (drop (walked.n + 1000) (ids_beside bucket tree)) tree, rest_of tree)) result gives

    pub calls_fault : {fault : PlanFault} → Forgetting b c (HasSettled bucket) (λ tree. old_among before bucket (page_of bucket marker tree) tree) (TellsAgedPage before bucket marker) (Err fault) → PaysForgetting bucket marker b c (Err fault) → MakesForgetCalls bucket a c
    calls_fault page pays met = let so_far = walked.paid met in let one = pays (met_here met) in omega (arith, so_far, one, calls_are bucket (present a) met.sound)

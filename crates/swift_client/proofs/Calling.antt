-- A call of a store over a link, by how its exchange went.
use Rattle.std.specs.Prelude.{◌≡◌, ◌⊎◌, ℕ, ◌+◌, ◌<◌, ◌≤◌, nat_eq, Bool, true, false, ◌&&◌, IsTrue, List, length, drop, Result, Ok, Err, Option, Some, None}
use Rattle.std.proofs.Common.{refl, sym, ap, subst, ◌∙◌, inl, inr, arith}
use Rattle.std.proofs.lemmas.Bool.{and_parts, and_from, eqb-true, eq-eqb}
use Rattle.std.proofs.lemmas.Slice.Eq.{bytes_eq-Decides}
use Rattle.gate_base.specs.Causes.{Rose}
use Rattle.httparse.specs.Grammar.{print_response}
use Rattle.httparse.proofs.GrammarLemmas.{response_unique}
use Rattle.swift_calls.specs.Step.{Fit}
use Rattle.swift_calls.specs.History.{History, Extends, Calls, Called, Counts, CountsFaults, budget}
use Rattle.swift_calls.specs.declared.calls.SwiftRequest.{SwiftRequest}
use Rattle.swift_calls.specs.declared.calls.SwiftReply.{SwiftReply}
use Rattle.swift_calls.specs.declared.calls.SwiftReply.TheVariants.{NotFound}
use Rattle.swift_calls.specs.declared.calls.SwiftFault.{SwiftFault}
use Rattle.swift_calls.specs.declared.calls.SwiftFault.TheVariants.{Failed, Memory}
use Rattle.swift_replies.specs.Answers.{SpellsAnswer, reply_of, said}
use Rattle.swift_requests.specs.Calls.{SpellsRequest}
use Rattle.swift_requests.specs.Link.{Exchanges, Exchanged}
use Rattle.swift_requests.specs.declared.place.Place.{Place}
use Rattle.swift_requests.specs.declared.link.LinkFault.{LinkFault}
use Rattle.swift_requests.specs.declared.link.LinkFault.TheVariants.{Failed as NoLink, Memory as NoMemory}
use Rattle.swift_client.specs.Client.{is_same_place, history_over, ReadsAs}

-- ---- what it is to be observable

same_place : (a b : Place) → is_same_place a b ≡ true → a ≡ b
same_place a b e =
    let first = and_parts _ _ e in
    let rest = and_parts _ _ first.1 in
    let host : a.host ≡ b.host = (bytes_eq-Decides a.host b.host).0 first.0 in
    let account : a.account ≡ b.account = (bytes_eq-Decides a.account b.account).0 rest.0 in
    let token : a.token ≡ b.token = (bytes_eq-Decides a.token b.token).0 rest.1 in
    λ i. record { host = host i; account = account i; token = token i }

place_same : (a b : Place) → a ≡ b → is_same_place a b ≡ true
place_same a b e =
    and_from _ _ ((bytes_eq-Decides a.host b.host).1 (ap (λ p. p.host) e))
    (and_from _ _ ((bytes_eq-Decides a.account b.account).1 (ap (λ p. p.account) e)) ((bytes_eq-Decides a.token b.token).1 (ap (λ p. p.token) e)))

pub record IsTold (link : History) (there place : Place) (own : ℕ) : Type 0 where
  pub link_told : IsTrue link.observable
  pub same : there ≡ place
  pub clean : own ≡ 0

told : (link : History) (there place : Place) (own : ℕ) → IsTrue (history_over link there place own).observable → IsTold link there place own
told link there place own e =
    let first = and_parts _ _ e in
    let rest = and_parts _ _ first.1 in
    record { link_told = first.0; same = same_place there place rest.0; clean = eqb-true own 0 rest.1 }

tells : (link : History) (there place : Place) (own : ℕ) → IsTold link there place own → IsTrue (history_over link there place own).observable
tells link there place own t = and_from _ _ t.link_told (and_from _ _ (place_same there place t.same) (eq-eqb own 0 t.clean))

-- ---- the history of a store over a link

tells_fresh : (link : History) (there place : Place) (o : Bool) → link.observable ≡ o → (IsTrue link.observable → there ≡ place) → (history_over link there place 0).observable ≡ link.observable
tells_fresh link there place true e same = and_from _ _ e (and_from _ _ (place_same there place (same e)) refl) ∙ sym e
tells_fresh link there place false e same = ap (λ o. o && (is_same_place there place && nat_eq 0 0)) e ∙ sym e

-- a store that has made no call of its own has the history of its link
pub fresh_history : (link : History) (there place : Place) → (IsTrue link.observable → there ≡ place) → history_over link there place 0 ≡ link
fresh_history link there place same =
    let observable = tells_fresh link there place link.observable refl same in
    let faults : link.faults + 0 ≡ link.faults = omega arith in
    λ i. record link { observable = observable i; faults = faults i }

-- ---- one reply

reply_or : Option SwiftReply → SwiftReply
reply_or None = NotFound
reply_or (Some reply) = reply

-- no bytes spell two replies to one call
one_reply : (call : SwiftRequest) (a b : SwiftReply) (bytes : List ℕ) → SpellsAnswer call a bytes → SpellsAnswer call b bytes → a ≡ b
unfolding reply_or
one_reply call a b bytes (h, n, m, is, says) (k, n', m', is', says') =
    let same : h ≡ k = (response_unique bytes h k _ _ is.0.0 is'.0.0).0 in
    let size : n ≡ n' = is.0.1 ∙ ap (λ v. length (print_response v)) same ∙ sym is'.0.1 in
    let says_same : reply_of call (said h (drop n bytes)) ≡ reply_of call (said k (drop n' bytes)) = λ i. reply_of call (said (same i) (drop (size i) bytes)) in
    ap reply_or (sym says ∙ says_same ∙ says')

-- ---- the exits of a call

module _ (link : History) (there place : Place) (own : ℕ) (request : SwiftRequest) where
  -- no exchange was left, so the link isn't observable
  pub spent : (own' : ℕ) → (IsTrue link.observable → link.called < budget) → budget ≤ link.called → Rose own own' → Calls (history_over link there place own) (history_over link there place own') request (Err Failed)
  spent own' more left rose = record {
    counts = inr (left, refl);
    faults = omega (arith, rose);
    observable = λ o. let some = more (and_parts _ _ o).0 in absurd (omega (arith, left, some));
    told = λ o. let some = more (and_parts _ _ o).0 in absurd (omega (arith, left, some));
    sure = λ s. s;
    never = λ o s more failed. omega (arith, left, more);
    kept = λ o. record { accounts = λ k within. refl; counts = λ k within. refl };
    effect = λ o. inr (left, refl);
  }

  -- memory ran out before the exchange
  pub unsent : Calls (history_over link there place own) (history_over link there place own) request (Err Memory)
  unsent = record {
    counts = inr refl;
    faults = refl;
    observable = λ o. o;
    told = λ o. o;
    sure = λ s. s;
    never = λ o s more failed. cc;
    kept = λ o. record { accounts = λ k within. refl; counts = λ k within. refl };
    effect = λ o. inr refl;
  }

  module _ (left : link.called < budget) (fit : Fit request) (bytes reply : List ℕ) (spelled : SpellsRequest place request bytes) (link' : History) (there' : Place) (stays : there' ≡ there) where
    -- what the exchange of the call came to
    effect_of : (result : Result (Unit {0}) LinkFault) → Exchanges there link bytes reply result link' → IsTrue (history_over link there place own).observable
        → Exchanged link' link.called link'.called request reply result
    effect_of result e o = let t = told link there place own o in e.effect t.link_told request fit (subst (λ p. SpellsRequest p request bytes) (sym t.same) spelled)

    still : (result : Result (Unit {0}) LinkFault) → Exchanges there link bytes reply result link' → (own' : ℕ) → own' ≡ own
        → IsTrue (history_over link there place own).observable → IsTrue (history_over link' there' place own').observable
    still result e own' same o =
        let t = told link there place own o in
        tells link' there' place own' (record { link_told = e.observable t.link_told; same = stays ∙ t.same; clean = same ∙ t.clean })

    -- it was told before the exchange
    was_told : (result : Result (Unit {0}) LinkFault) → Exchanges there link bytes reply result link' → (own' : ℕ) → own ≤ own'
        → IsTrue (history_over link' there' place own').observable → IsTrue (history_over link there place own).observable
    was_told result e own' more o =
        let t = told link' there' place own' o in
        let clean = t.clean in
        tells link there place own (record { link_told = e.told t.link_told; same = sym stays ∙ t.same; clean = omega (arith, more, clean) })

    kept_by : (result : Result (Unit {0}) LinkFault) → Exchanges there link bytes reply result link' → (own' : ℕ)
        → IsTrue (history_over link there place own).observable → Extends link.called (history_over link there place own) (history_over link' there' place own')
    kept_by result e own' o = let k = e.kept (told link there place own o).link_told in record { accounts = k.accounts; counts = k.counts }

    -- the request or its answer was lost
    pub lost : (fault : LinkFault) → fault ≡ NoLink → Exchanges there link bytes reply (Err fault) link' → Calls (history_over link there place own) (history_over link' there' place own) request (Err Failed)
    lost fault is exchanges = let e = subst (λ f. Exchanges there link bytes reply (Err f) link') is exchanges in record {
      counts = inl (left, e.counts);
      faults = let rose = e.faults in omega (arith, rose);
      observable = still (Err NoLink) e own refl;
      told = was_told (Err NoLink) e own (omega arith);
      sure = e.sure;
      never = λ o s more failed. e.never s refl;
      kept = kept_by (Err NoLink) e own;
      effect = λ o. let x = effect_of (Err NoLink) e o in inl (record { next = e.counts; either = x.0; rose = x.1 });
    }

    unread_counts : (link'.called ≡ link.called + 1) ⊎ (link'.called ≡ link.called) → Counts link.called link'.called (Err Memory)
    unread_counts (inl next) = inl (left, next)
    unread_counts (inr same) = inr same

    unread_effect : (link'.called ≡ link.called + 1) ⊎ (link'.called ≡ link.called) → Exchanged link' link.called link'.called request reply (Err NoMemory) → Called link' link.called link'.called request (Err Memory)
    unread_effect (inl next) (inl done) = inl (record { next = next; either = done.0; quiet = done.1 })
    unread_effect (inl next) (inr same) = inr same
    unread_effect (inr same) done = inr same

    recalled : (result : Result SwiftReply SwiftFault) (own' : ℕ) → Called link' link.called link'.called request result → Called (history_over link' there' place own') link.called link'.called request result
    recalled (Ok reply) own' c = record { next = c.next; reply = c.reply; tree = c.tree; quiet = c.quiet }
    recalled (Err Failed) own' (inl c) = inl (record { next = c.next; either = c.either; rose = c.rose })
    recalled (Err Failed) own' (inr c) = inr c
    recalled (Err Memory) own' (inl c) = inl (record { next = c.next; either = c.either; quiet = c.quiet })
    recalled (Err Memory) own' (inr c) = inr c

    -- memory ran out in the exchange
    pub unread : (fault : LinkFault) → fault ≡ NoMemory → Exchanges there link bytes reply (Err fault) link' → Calls (history_over link there place own) (history_over link' there' place own) request (Err Memory)
    unread fault is exchanges = let e = subst (λ f. Exchanges there link bytes reply (Err f) link') is exchanges in record {
      counts = unread_counts e.counts;
      faults = let same = e.faults in omega (arith, same);
      observable = still (Err NoMemory) e own refl;
      told = was_told (Err NoMemory) e own (omega arith);
      sure = e.sure;
      never = λ o s more failed. cc;
      kept = kept_by (Err NoMemory) e own;
      effect = λ o. recalled (Err Memory) own (unread_effect e.counts (effect_of (Err NoMemory) e o));
    }

    -- an answer came and was read
    pub read_as : Exchanges there link bytes reply (Ok tt) link' → (own' : ℕ) (result : Result SwiftReply SwiftFault) → ReadsAs request reply result → CountsFaults own own' result
        → Calls (history_over link there place own) (history_over link' there' place own') request result
    read_as e own' (Ok said) reads same = record {
      counts = (left, e.counts);
      faults = let steady = e.faults in omega (arith, steady, same);
      observable = still (Ok tt) e own' same;
      told = was_told (Ok tt) e own' (omega (arith, same));
      sure = e.sure;
      never = λ o s more failed. cc;
      kept = kept_by (Ok tt) e own';
      effect = λ o. let x = effect_of (Ok tt) e o in record { next = x.next; reply = one_reply request _ _ reply reads x.spells; tree = x.tree; quiet = x.quiet };
    }
    read_as e own' (Err Failed) none rose = record {
      counts = inl (left, e.counts);
      faults = let steady = e.faults in omega (arith, steady, rose);
      observable = λ o. absurd (none _ (effect_of (Ok tt) e o).spells);
      told = was_told (Ok tt) e own' (omega (arith, rose));
      sure = e.sure;
      never = λ o s more failed. none _ (effect_of (Ok tt) e o).spells;
      kept = kept_by (Ok tt) e own';
      effect = λ o. absurd (none _ (effect_of (Ok tt) e o).spells);
    }
    read_as e own' (Err Memory) reads same = record {
      counts = inl (left, e.counts);
      faults = let steady = e.faults in omega (arith, steady, same);
      observable = still (Ok tt) e own' same;
      told = was_told (Ok tt) e own' (omega (arith, same));
      sure = e.sure;
      never = λ o s more failed. cc;
      kept = kept_by (Ok tt) e own';
      effect = λ o. let x = effect_of (Ok tt) e o in inl (record { next = x.next; either = inr x.tree; quiet = x.quiet });
    }

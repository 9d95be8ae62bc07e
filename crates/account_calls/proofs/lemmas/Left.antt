-- A call that reads leaves the account, whatever comes of it.
use Rattle.std.specs.Prelude.{◌≡◌, ◌⊎◌, ◌≤◌, ◌<◌, ℕ, ◌+◌, List, IsTrue, Result, Ok, Err}
use Rattle.std.proofs.Common.{refl, sym, ap, subst, ◌∙◌, inl, inr, arith}
use Rattle.std.proofs.Math.Nat.{le_refl}
use Rattle.std.proofs.lemmas.Bool.{cases_lt}
use Rattle.list_pages.specs.Listing.{AsksPage, asked, not_asked}
use Rattle.list_pages.specs.declared.fault.PageFault.{PageFault}
use Rattle.swift_calls.proofs.lemmas.Histories.{counts_near}
use Rattle.swift_calls.specs.declared.heads.NameItem.{NameItem}
use Rattle.account_calls.specs.Calls.{GoesOn}
use Rattle.swift_calls.specs.Account.{SwiftAccount}
use Rattle.swift_calls.specs.Step.{swift_step}
use Rattle.swift_calls.specs.History.{History, present, Either, Called, Calls}
use Rattle.swift_calls.specs.declared.calls.SwiftRequest.{SwiftRequest}
use Rattle.swift_calls.specs.declared.calls.SwiftReply.{SwiftReply}
use Rattle.swift_calls.specs.declared.calls.SwiftFault.{SwiftFault}
use Rattle.swift_calls.specs.declared.calls.SwiftFault.TheVariants.{Failed, Memory}
use Rattle.account_calls.specs.Told.{LeavesAccount, LeavesThroughout}

module _ (old new : History) (request : SwiftRequest) (reads : (tree : SwiftAccount) → (swift_step request tree).tree ≡ tree) where
  module _ (at : new.account_at old.called ≡ present old) where
    by_effect : Either new old.called new.called request → present new ≡ present old
    by_effect (inl same) = same ∙ at
    by_effect (inr stepped) = stepped ∙ reads (new.account_at old.called) ∙ at

    by_result : (result : Result SwiftReply SwiftFault) → Called new old.called new.called request result → present new ≡ present old
    by_result (Ok reply) called = called.tree ∙ reads (new.account_at old.called) ∙ at
    by_result (Err Failed) (inl lost) = by_effect lost.either
    by_result (Err Failed) (inr spent) = ap new.account_at spent.1 ∙ at
    by_result (Err Memory) (inl unread) = by_effect unread.either
    by_result (Err Memory) (inr same) = ap new.account_at same ∙ at

pub left : {old new : History} {request : SwiftRequest} {result : Result SwiftReply SwiftFault} → ((tree : SwiftAccount) → (swift_step request tree).tree ≡ tree)
    → Calls old new request result → LeavesAccount old new
left {old = old} {new = new} {request = request} {result = result} reads calls observable =
    by_result old new request reads ((calls.kept observable).accounts old.called (le_refl old.called)) result (calls.effect observable)

-- and then another
pub leaves_then : (a b c : History) → (IsTrue a.observable → IsTrue b.observable) → LeavesAccount a b → LeavesAccount b c → LeavesAccount a c
leaves_then a b c on first then observable = then (on observable) ∙ first observable

-- ---- at each number of calls

-- what holds before a call and after it holds at each number of calls
pub throughout_one : {old new : History} {request : SwiftRequest} {result : Result SwiftReply SwiftFault} → ((tree : SwiftAccount) → (swift_step request tree).tree ≡ tree)
    → Calls old new request result → LeavesThroughout old new
throughout_one {old = old} {new = new} {result = result} reads calls observable k from to = at (cases_lt old.called k)
  where
    at : (old.called < k) ⊎ (k ≤ old.called) → new.account_at k ≡ present old
    at (inl later) = let near = (counts_near old.called new.called result calls.counts).1 in ap new.account_at (omega arith) ∙ left reads calls observable
    at (inr sooner) = ap new.account_at (omega arith) ∙ (calls.kept observable).accounts old.called (le_refl old.called)

-- no call was made
pub throughout_none : (h : History) → LeavesThroughout h h
throughout_none h observable k from to = ap h.account_at (omega arith)

-- some calls, and then others
pub throughout_then : {a b c : History} → GoesOn a b → GoesOn b c → LeavesThroughout a b → LeavesThroughout b c → LeavesThroughout a c
throughout_then {a = a} {b = b} {c = c} on next first then observable k from to = at (cases_lt b.called k)
  where
    at : (b.called < k) ⊎ (k ≤ b.called) → c.account_at k ≡ present a
    at (inl later) = then (on.observable observable) k (omega arith) to ∙ first observable b.called on.ordered (le_refl b.called)
    at (inr sooner) = (next.kept (on.observable observable)).accounts k sooner ∙ first observable k from sooner

-- the account at the end
pub throughout_end : {a b : History} → GoesOn a b → LeavesThroughout a b → IsTrue a.observable → present b ≡ present a
throughout_end {b = b} on leaves observable = leaves observable b.called on.ordered (le_refl b.called)

-- a page of the names of a container was asked for
pub throughout_page : {old new : History} {container prefix marker : List ℕ} {result : Result (List NameItem) PageFault} → AsksPage old new container prefix marker result → LeavesThroughout old new
throughout_page (asked answered calls ends) = throughout_one (λ tree. refl) calls
throughout_page {old = old} (not_asked same out_of_memory) = subst (LeavesThroughout old) (sym same) (throughout_none old)

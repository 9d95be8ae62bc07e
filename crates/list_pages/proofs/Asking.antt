-- A page is asked for by one call.
use Rattle.std.specs.Prelude.{◌≡◌, List, ℕ, Result, Ok, Err}
use Rattle.std.specs.Result.{IsErrAnd}
use Rattle.std.proofs.Common.{ap, subst, refl}
use Rattle.swift_calls.specs.History.{History, Calls}
use Rattle.swift_calls.specs.declared.calls.SwiftFault.{SwiftFault}
use Rattle.swift_calls.specs.declared.calls.SwiftFault.TheVariants as swift
use Rattle.swift_calls.specs.declared.calls.SwiftReply.{SwiftReply}
use Rattle.swift_calls.specs.declared.calls.SwiftRequest.{SwiftRequest}
use Rattle.swift_calls.specs.declared.heads.NameItem.{NameItem}
use Rattle.list_pages.specs.Fault.{page_fault}
use Rattle.list_pages.specs.Listing.{page_request, AsksPage, asked, not_asked, ComesTo, EndsWith}
use Rattle.list_pages.specs.declared.fault.PageFault.{PageFault}
use Rattle.list_pages.specs.declared.fault.PageFault.TheVariants.{Memory}

err_is : (result : Result (List NameItem) PageFault) (fault : PageFault) → IsErrAnd result (λ e. e ≡ fault) → result ≡ Err fault
err_is (Ok x) fault gives = absurd gives
err_is (Err e) fault gives = ap Err gives

module _ {old new : History} {container prefix marker : List ℕ} where
  -- it was answered
  pub page_answered : {request : SwiftRequest} {reply : SwiftReply} (result : Result (List NameItem) PageFault) → request ≡ page_request container prefix marker → Calls old new request (Ok reply)
      → ComesTo container prefix marker reply result → AsksPage old new container prefix marker result
  page_answered {reply = reply} result is calls comes = asked (Ok reply) (subst (λ r. Calls old new r (Ok reply)) is calls) comes

  -- it was not
  pub page_failed : {request : SwiftRequest} {fault : SwiftFault} (result : Result (List NameItem) PageFault) → request ≡ page_request container prefix marker → Calls old new request (Err fault)
      → IsErrAnd result (λ e. e ≡ page_fault fault) → AsksPage old new container prefix marker result
  page_failed {fault = fault} result is calls gives = asked (Err fault) (subst (λ r. Calls old new r (Err fault)) is calls) (ends fault (err_is result (page_fault fault) gives))
    where
      ends : (fault : SwiftFault) → result ≡ Err (page_fault fault) → EndsWith container prefix marker (Err fault) result
      ends swift.Failed e = e
      ends swift.Memory e = e

-- no call was made
pub page_unasked : (h : History) (container prefix marker : List ℕ) (result : Result (List NameItem) PageFault) → IsErrAnd result (λ e. e ≡ Memory) → AsksPage h h container prefix marker result
page_unasked h container prefix marker result gives = not_asked refl (err_is result Memory gives)

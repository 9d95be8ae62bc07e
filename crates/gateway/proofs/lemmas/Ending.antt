-- How a connection ends because of the store.
use Rattle.std.specs.Prelude.{◌≡◌, ◌≢◌, ◌≤◌, ◌⊎◌, ℕ, Bool, true, false, cond, List, Some, None}
use Rattle.std.proofs.Common.{refl, sym, ap, ◌∙◌, inl, inr, arith}
use Rattle.gate_base.specs.Causes.{Rose}
use Rattle.gate_base.specs.declared.outside.Piece.{Piece}
use Rattle.http_wire.specs.Closing.{is_closing}
use Rattle.s3_machine.specs.declared.code.Code.TheVariants.{ServiceUnavailable, InconsistentStore}
use Rattle.s3_machine.specs.declared.operation.Label.{Label}
use Rattle.s3_machine.specs.declared.operation.Op.{Op}
use Rattle.s3_machine.specs.declared.operation.Reply.{Reply}
use Rattle.s3_machine.specs.declared.operation.Reply.TheVariants.{Refused, Memory}
use Rattle.s3_machine.specs.declared.operation.Settings.{Settings}
use Rattle.s3_machine.specs.Proper.{is_store_fault}
use Rattle.s3_machine.proofs.lemmas.StepLemmas.{machine_reply}
use Rattle.swift_calls.specs.History.{History}
use Rattle.upload_records.specs.Native.{s3_state}
use Rattle.account_calls.specs.Answers.{AnswersBy, machine, unavailable, memory}
use Rattle.account_calls.specs.Stutters.{LastFailed}
use Rattle.gateway.specs.declared.ended.Ended.{Ended}
use Rattle.gateway.specs.declared.ended.Ended.TheVariants as ended
use Rattle.gateway.specs.declared.service.Service.{Service}
use Rattle.gateway.specs.Connection.{Progress, ConnectionCursor, Resolves, read, rejected, Ends, over, cut, served, unread, unheard, untold, broken, parted, ConnectionTrace, is_store_end}
use Rattle.gateway.specs.Exchange.{ReplyRelation, StoreCursor, Span, ExpectedBytes, printed, out_of_memory, Performs, unsettled, answered, Replies, refused, performed, FaultFreeReplies, PartExchange}
use Rattle.gateway.specs.Request.{Request}
use Rattle.gateway.proofs.lemmas.Order.{exchanges_order_faults}

-- ---- a reply that the store is inconsistent

by_machine : {settings : Settings} {h : History} {p q : ℕ} {op : Op} {label : Label} {takes : ℕ} {reply : Reply} → AnswersBy settings h p q op label takes reply → reply ≢ Refused InconsistentStore
by_machine {settings = settings} {h = h} {p = p} {q = q} {op = op} {label = label} {reply = reply} (machine all step) says = (machine_reply settings (s3_state (h.account_at p)) op label reply (s3_state (h.account_at q)) step).2 says
by_machine (unavailable is failed old) says = cc
by_machine (memory is old) says = cc

performs_consistent : {settings : Settings} {h : History} {old new : StoreCursor} {span : Span} {op : Op} {label : Label} {reply : Reply} → Performs settings h old span new op label reply → reply ≢ Refused InconsistentStore
performs_consistent {h = h} {old = old} {new = new} {reply = reply} (unsettled not begins takes) = by not.says
  where
    by : ((reply ≡ Refused ServiceUnavailable) × LastFailed h old.number new.number) ⊎ (reply ≡ Memory) → reply ≢ Refused InconsistentStore
    by (inl (is, failed)) says = cc
    by (inr is) says = cc
performs_consistent (answered settled answers beside bound shown) = by_machine answers.by

-- it comes over no observable store whose account is consistent
replies_consistent : {settings : Settings} {h : History} {old new : StoreCursor} {span : Span} {request : Request} {label : Label} {reply : Reply} → Replies settings h old span new request label reply → reply ≢ Refused InconsistentStore
replies_consistent (refused code means is proper sound same takes) says = let same : code ≡ InconsistentStore = cc in let no : true ≡ false = sym (ap is_store_fault same) ∙ proper in cc
replies_consistent (performed op means performs caused known) says = performs_consistent performs says

-- ---- the end of a connection whose request was answered in whole

closes : (t : Bool) (end : Ended) → Some end ≡ cond t (Some ended.Closed) None → is_store_end end ≡ false
closes true end is = let same : ended.Closed ≡ end = cc in ap is_store_end (sym same)
closes false end is = cc

resolved_end : {service : Service} {moment : ℕ} {old : ConnectionCursor} {request : Request} {rest : List ℕ} {place : ℕ} (end : Ended) → Resolves service moment old request rest place → Some end ≡ request.end → is_store_end end ≡ false
resolved_end end (read message size begins same left at) is = closes (is_closing message) end (is ∙ ap (λ r. r.end) same)
resolved_end {old = old} end (rejected kind head begins same left at) is = let same' : Some (ended.Refused kind old.place) ≡ Some end = sym (is ∙ ap (λ r. r.end) same) in (let one : ended.Refused kind old.place ≡ end = cc in ap is_store_end (sym one))

due_end : {service : Service} {moment : ℕ} {old : ConnectionCursor} {request : Request} {rest : List ℕ} {place : ℕ} {label : Label} {reply : Reply} {bytes : List ℕ} (end : Ended) → Resolves service moment old request rest place
    → ExpectedBytes request label reply (Some end) bytes → is_store_end end ≡ false
due_end end resolves (printed known text is) = resolved_end end resolves is
due_end end resolves (out_of_memory text is) = let same : ended.Memory ≡ end = cc in ap is_store_end (sym same)

-- ---- the end of a connection because of the store

-- it is that of a read that broke off
only_parted : {service : Service} {R : ReplyRelation} {connection : ℕ} {last : ConnectionCursor} {new : Progress} {spans : List Span} (end : Ended) (P : Type 0) → is_store_end end ≡ true
    → ((request : Request) (label : Label) (span : Span) (sent sent' : List Piece) → PartExchange R connection last.progress.store span new.store request label end sent sent' → P)
    → Ends service R connection end last new spans → P
only_parted end P is by (over e front same) = absurd (let no : true ≡ false = sym is ∙ ap is_store_end e in cc)
only_parted end P is by (cut e front same) = absurd (let no : true ≡ false = sym is ∙ ap is_store_end e in cc)
only_parted end P is by (served cursor span serves same) = absurd (let no : true ≡ false = sym is ∙ due_end end serves.resolves serves.exchange.due in cc)
only_parted end P is by (unread heard e only owed sends) = absurd (let no : true ≡ false = sym is ∙ ap is_store_end e in cc)
only_parted end P is by (unheard e only owed) = absurd (let no : true ≡ false = sym is ∙ ap is_store_end e in cc)
only_parted end P is by (untold heard e only owed sends) = absurd (let no : true ≡ false = sym is ∙ ap is_store_end e in cc)
only_parted end P is by (broken span e breaks) = absurd (let no : true ≡ false = sym is ∙ ap is_store_end e in cc)
only_parted {new = new} end P is by (parted span parts) = by parts.request parts.label span parts.heard new.sent parts.exchange

rose_behind : (first before now : ℕ) → first ≤ before → Rose before now → Rose first now
rose_behind first before now near rose = omega arith

pub failed_store_rose : {service : Service} {R : ReplyRelation} {connection : ℕ} {old : ConnectionCursor} {spans : List Span} {new : Progress} → ConnectionTrace service R connection ended.StoreFailed old spans new
    → Rose old.progress.store.faults new.store.faults
failed_store_rose {old = old} {new = new} trace =
    only_parted ended.StoreFailed (Rose old.progress.store.faults new.store.faults) refl
    (λ request label span sent sent' exchange. rose_behind old.progress.store.faults trace.last.progress.store.faults new.store.faults (exchanges_order_faults trace.exchanges) exchange.cause.1)
    trace.ends

pub found_consistent : {service : Service} {h : History} {connection : ℕ} {container name : List ℕ} {old : ConnectionCursor} {spans : List Span} {new : Progress}
    → ConnectionTrace service (Replies service.settings h) connection (ended.Inconsistent container name) old spans new → ⊥
found_consistent {container = container} {name = name} trace = only_parted (ended.Inconsistent container name) ⊥ refl (λ request label span sent sent' exchange. replies_consistent exchange.fails exchange.breaks) trace.ends

-- where no request was answered ServiceUnavailable, none ends so
pub no_store_end : {service : Service} {h : History} {connection : ℕ} {old : ConnectionCursor} {spans : List Span} {new : Progress} (end : Ended)
    → ConnectionTrace service (FaultFreeReplies (Replies service.settings h)) connection end old spans new → is_store_end end ≡ false
no_store_end ended.End trace = refl
no_store_end ended.Closed trace = refl
no_store_end (ended.CutShort place) trace = refl
no_store_end (ended.Refused kind place) trace = refl
no_store_end ended.LineFailed trace = refl
no_store_end ended.StoreFailed trace = only_parted ended.StoreFailed (true ≡ false) refl (λ request label span sent sent' exchange. absurd (exchange.fails.available exchange.breaks)) trace.ends
no_store_end (ended.Inconsistent container name) trace = only_parted (ended.Inconsistent container name) (true ≡ false) refl (λ request label span sent sent' exchange. absurd (replies_consistent exchange.fails.replies exchange.breaks)) trace.ends
no_store_end ended.Memory trace = refl

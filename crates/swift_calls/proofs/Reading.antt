-- Calls that only read.
use Rattle.std.specs.Prelude.{◌≡◌, ℕ, true, Option, None, Some, Result, Ok, Err}
use Rattle.std.proofs.Common.{refl, sym, ap, ◌∙◌, inl, inr, true≢false}
use Rattle.swift_calls.specs.Account.{SwiftAccount, SwiftContainer}
use Rattle.swift_calls.specs.Step.{swift_step, head_container, only_reads}
use Rattle.swift_calls.specs.History.{History, Called, Either}
use Rattle.swift_calls.specs.declared.calls.SwiftRequest.{SwiftRequest}
use Rattle.swift_calls.specs.declared.calls.SwiftRequest.TheVariants.{ListContainers, HeadContainer, PutContainer, PostContainer, DeleteContainer, ListNames, PutObject, PutManifest, HeadObject, GetObject, GetManifest, DeleteObject}
use Rattle.swift_calls.specs.declared.calls.SwiftReply.{SwiftReply}
use Rattle.swift_calls.specs.declared.calls.SwiftFault.{SwiftFault}
use Rattle.swift_calls.specs.declared.calls.SwiftFault.TheVariants.{Failed, Memory}

head_leaves : (v : Option SwiftContainer) (tree : SwiftAccount) → (head_container v tree).tree ≡ tree
head_leaves None tree = refl
head_leaves (Some folder) tree = refl

pub reads_leave : (request : SwiftRequest) (tree : SwiftAccount) → only_reads request ≡ true → (swift_step request tree).tree ≡ tree
reads_leave (ListContainers marker limit) tree is = refl
reads_leave (HeadContainer n) tree is = head_leaves _ tree
reads_leave (PutContainer n readers created) tree is = absurd (true≢false (sym is))
reads_leave (PostContainer n readers) tree is = absurd (true≢false (sym is))
reads_leave (DeleteContainer n) tree is = absurd (true≢false (sym is))
reads_leave (ListNames n prefix marker limit) tree is = refl
reads_leave (PutObject put) tree is = absurd (true≢false (sym is))
reads_leave (PutManifest c n content_type meta segments) tree is = absurd (true≢false (sym is))
reads_leave (HeadObject c n) tree is = refl
reads_leave (GetObject c n range) tree is = refl
reads_leave (GetManifest c n) tree is = refl
reads_leave (DeleteObject c n) tree is = absurd (true≢false (sym is))

either_keeps : (h : History) (p q : ℕ) (request : SwiftRequest) → only_reads request ≡ true → Either h p q request → h.account_at q ≡ h.account_at p
either_keeps h p q request is (inl same) = same
either_keeps h p q request is (inr done) = done ∙ reads_leave request (h.account_at p) is

pub reads_keep : (h : History) (p q : ℕ) (request : SwiftRequest) (result : Result SwiftReply SwiftFault) → only_reads request ≡ true → Called h p q request result → h.account_at q ≡ h.account_at p
reads_keep h p q request (Ok reply) is called = called.tree ∙ reads_leave request (h.account_at p) is
reads_keep h p q request (Err Failed) is (inl lost) = either_keeps h p q request is lost.either
reads_keep h p q request (Err Failed) is (inr spent) = ap h.account_at spent.1
reads_keep h p q request (Err Memory) is (inl unread) = either_keeps h p q request is unread.either
reads_keep h p q request (Err Memory) is (inr same) = ap h.account_at same

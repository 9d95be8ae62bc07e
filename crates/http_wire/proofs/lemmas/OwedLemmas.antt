-- Whether the interim line is owed, by what comes first.
use Rattle.std.proofs.Common.{◌≡◌, ℕ, Bool, true, List, refl, sym, ap, ◌∙◌, true≢false}
use Rattle.httparse.specs.Grammar.{RequestHead}
use Rattle.http_wire.specs.declared.message.Kind.{Kind}
use Rattle.http_wire.specs.declared.message.Kind.TheVariants.{BadHead, LongHead, ManyHeaders, NoLength, BadLength, LongBody, Transfer, ShortBody}
use Rattle.http_wire.specs.FirstMessage.{FirstMessage, HasHead, HasNoHead, BeginsWith, IsJudged, IsRefused, asks, nothing, cut_short, refused, message_of}
use Rattle.http_wire.specs.Interim.{is_owed, owed_by, OwesInterim, IsOwedFirst}
use Rattle.http_wire.proofs.lemmas.UniqueLemmas.{same_head, not_empty}

-- the head says
pub owed_by_head : (limit : ℕ) (all : List ℕ) (h : RequestHead) (n : ℕ) → HasHead all h n → OwesInterim limit all → is_owed limit (message_of h) ≡ true
owed_by_head limit all h n has (k, m, had, is) = ap (λ (g : RequestHead). is_owed limit (message_of g)) (same_head all h k n m has had) ∙ is

pub none_owed : (limit : ℕ) (all : List ℕ) → HasNoHead all → ¬ (OwesInterim limit all)
none_owed limit all none (k, m, had, is) = none k m had

judged_not : (limit : ℕ) (bytes : List ℕ) (kind : Kind) (head : Bool) → IsJudged limit bytes kind head → ¬ (OwesInterim limit bytes)
judged_not limit bytes kind head (h, n, has, is, method) owes =
    true≢false (sym (owed_by_head limit bytes h n has owes) ∙ ap (owed_by (message_of h)) is)

-- of all that is refused only a request whose body ends early is owed it
refused_short : (limit : ℕ) (bytes : List ℕ) (kind : Kind) (head : Bool) → IsRefused limit bytes kind head → OwesInterim limit bytes → kind ≡ ShortBody
refused_short limit bytes BadHead head is owes = absurd (none_owed limit bytes is.0 owes)
refused_short limit bytes LongHead head is owes = absurd (none_owed limit bytes is.0 owes)
refused_short limit bytes ManyHeaders head is owes = absurd (judged_not limit bytes ManyHeaders head is owes)
refused_short limit bytes NoLength head is owes = absurd (judged_not limit bytes NoLength head is owes)
refused_short limit bytes BadLength head is owes = absurd (judged_not limit bytes BadLength head is owes)
refused_short limit bytes LongBody head is owes = absurd (judged_not limit bytes LongBody head is owes)
refused_short limit bytes Transfer head is owes = absurd (judged_not limit bytes Transfer head is owes)
refused_short limit bytes ShortBody head is owes = refl

pub owed_first : (limit : ℕ) (bytes : List ℕ) (front : FirstMessage) → BeginsWith limit bytes front → (OwesInterim limit bytes → IsOwedFirst limit bytes front) × (IsOwedFirst limit bytes front → OwesInterim limit bytes)
owed_first limit bytes (asks message size) (h, n, m, has, is, sized, within, spelt) =
    (λ owes. ap (is_owed limit) spelt ∙ owed_by_head limit bytes h n has owes, λ owed. (h, n, has, sym (ap (is_owed limit) spelt) ∙ owed))
owed_first limit bytes nothing is = (λ (h, n, has, owed). not_empty bytes h n has is, λ owed. absurd owed)
owed_first limit bytes cut_short (some, short, none, lives) = (none_owed limit bytes none, λ owed. absurd owed)
owed_first limit bytes (refused kind head) is = (λ owes. (refused_short limit bytes kind head is owes, owes), λ owed. owed.1)

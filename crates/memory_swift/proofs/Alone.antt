-- What the first two answers of a reader say of all bytes.
use Rattle.std.specs.Prelude.{◌≡◌, ℕ, ◌≤◌, Bool, false, Ok, List, [], ◌∷◌, length, take, drop}
use Rattle.std.proofs.Common.{refl, sym, ap, subst, ◌∙◌, arith, inl, inr, true≢false, length-drop}
use Rattle.std.proofs.Math.Nat.{le_refl}
use Rattle.std.proofs.Math.Seq.{take-length}
use Rattle.http_wire.specs.declared.message.Message.{Message}
use Rattle.http_wire.specs.declared.message.Kind.{Kind}
use Rattle.http_wire.specs.declared.message.Got.{Got}
use Rattle.http_wire.specs.declared.message.Got.TheVariants.{Request, End, CutShort, Refused}
use Rattle.http_wire.specs.declared.judge.TheConstants.{MOST_BODY_LIMIT}
use Rattle.http_wire.specs.FirstMessage.{FirstMessage, BeginsWith, Spells, asks, nothing, cut_short, refused}
use Rattle.http_wire.specs.Reading.{Pending, GivesFirstMessage, ends}
use Rattle.http_wire.proofs.lemmas.UniqueLemmas.{one_front, request_some, request_within, spelt_front, front_spells}

-- no byte is left behind so many
all_taken : (bytes : List ℕ) (size : ℕ) → size ≤ length bytes → drop size bytes ≡ [] → size ≡ length bytes
all_taken bytes size within e = let none = ap length e in omega (arith, length-drop size bytes, none, within)

taken_all : (bytes : List ℕ) → drop (length bytes) bytes ≡ []
taken_all [] = refl
taken_all (b ∷ bytes) = taken_all bytes

-- bytes that spell a message begin with it, and it is all of them
spelt : (bytes : List ℕ) (message : Message) → Spells MOST_BODY_LIMIT bytes message → BeginsWith MOST_BODY_LIMIT bytes (asks message (length bytes))
spelt bytes message spells = spelt_front MOST_BODY_LIMIT bytes message (length bytes) (le_refl (length bytes)) (subst (λ b. Spells MOST_BODY_LIMIT b message) (sym (take-length bytes)) spells)

size_in : FirstMessage → ℕ
size_in (asks message size) = size
size_in nothing = 0
size_in cut_short = 0
size_in (refused kind head) = 0

module _ (first second third : Pending) (bytes left rest : List ℕ) (going : second.ended ≡ false) where
  -- a request came, and then the end
  alone_by : (message : Message) → GivesFirstMessage MOST_BODY_LIMIT first bytes (Request message) second left → GivesFirstMessage MOST_BODY_LIMIT second left End third rest → Spells MOST_BODY_LIMIT bytes message
  alone_by message (size, goes, begins, behind, at) (inl ended, same, place) = absurd (true≢false (sym ended ∙ going))
  alone_by message (size, goes, begins, behind, at) (inr none, same, place) =
      let size_is : size ≡ length bytes = all_taken bytes size (request_within MOST_BODY_LIMIT bytes message size begins) (sym behind ∙ none) in
      subst (λ b. Spells MOST_BODY_LIMIT b message) (ap (λ n. take n bytes) size_is ∙ take-length bytes) (front_spells MOST_BODY_LIMIT bytes message size begins)

  nothing_left : (message : Message) → GivesFirstMessage MOST_BODY_LIMIT first bytes (Request message) second left → (other : Message) → Spells MOST_BODY_LIMIT bytes other → left ≡ []
  unfolding size_in
  nothing_left message (size, goes, begins, behind, place) other spells =
      let size_is : size ≡ length bytes = ap size_in (one_front MOST_BODY_LIMIT bytes (asks message size) (asks other (length bytes)) begins (spelt bytes other spells)) in
      behind ∙ ap (λ n. drop n bytes) size_is ∙ taken_all bytes

  -- or something else, so that bytes are left
  not_alone_by : (got : Got) (message : Message) → GivesFirstMessage MOST_BODY_LIMIT first bytes (Request message) second left → GivesFirstMessage MOST_BODY_LIMIT second left got third rest → (got ≡ End → ⊥) → (other : Message) → ¬ (Spells MOST_BODY_LIMIT bytes other)
  not_alone_by (Request more) message gave (size, goes, begins, behind, place) last other spells =
      let none = ap length (nothing_left message gave other spells) in
      let some = request_some MOST_BODY_LIMIT left more size begins in
      let within = request_within MOST_BODY_LIMIT left more size begins in
      omega (arith, none, some, within)
  not_alone_by End message gave gives last other spells = last refl
  not_alone_by (CutShort at) message gave (goes, begins, same, behind, place) last other spells =
      let e : cut_short ≡ nothing = one_front MOST_BODY_LIMIT left cut_short nothing begins (nothing_left message gave other spells) in cc
  not_alone_by (Refused kind at head) message gave (goes, begins, same, behind, place) last other spells =
      let e : refused kind head ≡ nothing = one_front MOST_BODY_LIMIT left (refused kind head) nothing begins (nothing_left message gave other spells) in cc

-- no request came
no_message_by : (got : Got) (first second : Pending) (bytes left : List ℕ) → first.ended ≡ false → GivesFirstMessage MOST_BODY_LIMIT first bytes got second left → ((message : Message) → got ≡ Request message → ⊥) → (other : Message) → ¬ (Spells MOST_BODY_LIMIT bytes other)
no_message_by (Request message) first second bytes left goes gives never other spells = never message refl
no_message_by End first second bytes left goes (inl ended, same, place) never other spells = absurd (true≢false (sym ended ∙ goes))
no_message_by End first second bytes left goes (inr none, same, place) never other spells =
    let e : nothing ≡ asks other (length bytes) = one_front MOST_BODY_LIMIT bytes nothing (asks other (length bytes)) none (spelt bytes other spells) in cc
no_message_by (CutShort at) first second bytes left goes (going, begins, same, behind, place) never other spells =
    let e : cut_short ≡ asks other (length bytes) = one_front MOST_BODY_LIMIT bytes cut_short (asks other (length bytes)) begins (spelt bytes other spells) in cc
no_message_by (Refused kind at head) first second bytes left goes (going, begins, same, behind, place) never other spells =
    let e : refused kind head ≡ asks other (length bytes) = one_front MOST_BODY_LIMIT bytes (refused kind head) (asks other (length bytes)) begins (spelt bytes other spells) in cc

-- ---- the same by what the calls gave

open_behind : (got : Got) (message : Message) (second : Pending) → got ≡ Request message → second.ended ≡ ends (Ok got) → second.ended ≡ false
open_behind got message second is e = e ∙ ap (λ got. ends (Ok got)) is

module _ (got : Got) (first second : Pending) (bytes left : List ℕ) (gives : GivesFirstMessage MOST_BODY_LIMIT first bytes got second left) where
  module _ (message : Message) (is : got ≡ Request message) (e : second.ended ≡ ends (Ok got)) (next : Got) (third : Pending) (rest : List ℕ) (then : GivesFirstMessage MOST_BODY_LIMIT second left next third rest) where
    pub alone : next ≡ End → Spells MOST_BODY_LIMIT bytes message
    alone end = alone_by first second third bytes left rest (open_behind got message second is e) message (subst (λ got. GivesFirstMessage MOST_BODY_LIMIT first bytes got second left) is gives) (subst (λ got. GivesFirstMessage MOST_BODY_LIMIT second left got third rest) end then)

    not_end : (next ≡ End → ⊥) → (other : Message) → ¬ (Spells MOST_BODY_LIMIT bytes other)
    not_end = not_alone_by first second third bytes left rest (open_behind got message second is e) next message (subst (λ got. GivesFirstMessage MOST_BODY_LIMIT first bytes got second left) is gives) then

    pub another : (more : Message) → next ≡ Request more → (other : Message) → ¬ (Spells MOST_BODY_LIMIT bytes other)
    another more is_more = not_end (λ end. let e = sym is_more ∙ end in cc)

    pub cut_behind : (at : ℕ) → next ≡ CutShort at → (other : Message) → ¬ (Spells MOST_BODY_LIMIT bytes other)
    cut_behind at is_cut = not_end (λ end. let e = sym is_cut ∙ end in cc)

    pub refused_behind : (kind : Kind) (at : ℕ) (head : Bool) → next ≡ Refused kind at head → (other : Message) → ¬ (Spells MOST_BODY_LIMIT bytes other)
    refused_behind kind at head is_refused = not_end (λ end. let e = sym is_refused ∙ end in cc)

  pub none_came : first.ended ≡ false → got ≡ End → (other : Message) → ¬ (Spells MOST_BODY_LIMIT bytes other)
  none_came goes is = no_message_by got first second bytes left goes gives (λ message asked. let e = sym asked ∙ is in cc)

  pub cut_first : (at : ℕ) → first.ended ≡ false → got ≡ CutShort at → (other : Message) → ¬ (Spells MOST_BODY_LIMIT bytes other)
  cut_first at goes is = no_message_by got first second bytes left goes gives (λ message asked. let e = sym asked ∙ is in cc)

  pub refused_first : (kind : Kind) (at : ℕ) (head : Bool) → first.ended ≡ false → got ≡ Refused kind at head → (other : Message) → ¬ (Spells MOST_BODY_LIMIT bytes other)
  refused_first kind at head goes is = no_message_by got first second bytes left goes gives (λ message asked. let e = sym asked ∙ is in cc)

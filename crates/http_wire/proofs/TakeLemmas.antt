-- A body that was read behind what had come of it.
use Rattle.std.proofs.Common.{◌≡◌, ℕ, ◌+◌, ◌<◌, ◌≤◌, true, false, List, [], ◌++◌, length, take, drop, sym, ap, ap₂, ◌∙◌, append_assoc, length-append, length-take, take-append-drop, arith}
use Rattle.std.proofs.Math.Seq.{take-append_seam, drop-append_seam}
use Rattle.http_wire.specs.Taken.{BodyFrom}

-- no byte is lost
pub rejoined : (old before came body rest rest' : List ℕ) (start : ℕ) → before ≡ take start old → came ≡ drop start old
    → body ++ rest' ≡ came ++ rest → (before ++ body) ++ rest' ≡ old ++ rest
rejoined old before came body rest rest' start front back kept =
    append_assoc before body rest' ∙ ap₂ (λ u v. u ++ v) front (kept ∙ ap (λ v. v ++ rest) back)
    ∙ sym (append_assoc (take start old) (drop start old) rest) ∙ ap (λ v. v ++ rest) (take-append-drop start old)

-- the connection ended inside the body
pub ended_inside : (old before came body rest rest' : List ℕ) (start size : ℕ) → before ≡ take start old → came ≡ drop start old
    → body ++ rest' ≡ came ++ rest → length body < size → rest' ≡ [] → BodyFrom (old ++ rest) start size false body before rest'
ended_inside old before came body rest rest' start size front back kept short none =
    let all = rejoined old before came body rest rest' start front back kept in (
      omega (
        arith,
        short,
        ap length (sym all),
        length-append (before ++ body) rest',
        length-append before body,
        ap length none,
        ap length front,
        length-take start old,
      ),
      all,
    )

-- the body came whole
pub fetched : (old before came body rest rest' : List ℕ) (start size : ℕ) (left : List ℕ) → start ≤ length old → before ≡ take start old → came ≡ drop start old
    → body ++ rest' ≡ came ++ rest → length body ≡ size → left ≡ [] → BodyFrom (old ++ rest) start size true body left rest'
fetched old before came body rest rest' start size left within front back kept long none =
    let all = rejoined old before came body rest rest' start front back kept in
    let begins : length before ≡ start = omega (arith, within, ap length front, length-take start old) in
    let behind : drop start (old ++ rest) ≡ body ++ rest' =
    ap₂ drop (sym begins) (sym all ∙ append_assoc before body rest') ∙ drop-append_seam before (body ++ rest') in
    let ends : length (before ++ body) ≡ start + size = omega (arith, begins, long, length-append before body) in (
      omega (arith, ends, ap length all, length-append (before ++ body) rest'),
      sym (ap (take size) behind ∙ ap (λ k. take k (body ++ rest')) (sym long) ∙ take-append_seam body rest'),
      ap (λ v. v ++ rest') none ∙ sym (ap₂ drop (sym ends) (sym all) ∙ drop-append_seam (before ++ body) rest'),
    )

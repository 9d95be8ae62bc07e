-- Reasons of which none holds.
use Rattle.std.proofs.Common.{◌≡◌, Bool, true, false, cond, List, [], ◌∷◌, ◌++◌, Option, Some, None, refl, ap, ◌∙◌}
use Rattle.s3_machine.specs.declared.code.Code.{Code}
use Rattle.s3_machine.specs.declared.operation.Op.{Op}
use Rattle.s3_requests.specs.declared.meant.Meant.{Meant}
use Rattle.s3_requests.specs.declared.meant.Meant.TheVariants.{Refused}
use Rattle.s3_requests.specs.declared.meant.Meant.TheVariants as meant
use Rattle.s3_requests.specs.Meaning.{Reason, first_code, first_refusal}

-- no reason of the list holds
abbrev pub NoneHolds : List Reason → Type 0
NoneHolds [] = Unit {0}
NoneHolds (this ∷ others) = (this.holds ≡ false) × NoneHolds others

-- where no reason holds, the rest is meant
pub none_refuses : (list : List Reason) (rest : Meant) → NoneHolds list → first_refusal list rest ≡ rest
none_refuses [] rest none = refl
none_refuses (this ∷ others) rest none = ap (λ b. cond b (Refused this.code) (first_refusal others rest)) none.0 ∙ none_refuses others rest none.1

chosen : (b : Bool) (code : Code) (rest : Meant) (op : Op) → cond b (Refused code) rest ≡ meant.Op op → (b ≡ false) × (rest ≡ meant.Op op)
chosen true code rest op h = cc
chosen false code rest op h = (refl, h)

-- where an operation is meant, no reason to refuse it holds
pub none_held : (list : List Reason) (rest : Meant) (op : Op) → first_refusal list rest ≡ meant.Op op → NoneHolds list × (rest ≡ meant.Op op)
none_held [] rest op h = (tt, h)
none_held (this ∷ others) rest op h =
    let first = chosen this.holds this.code (first_refusal others rest) op h in
    let later = none_held others rest op first.1 in
    ((first.0, later.0), later.1)

-- ---- the first code of some reasons, before others

refuses_by : (b : Bool) (this code : Code) (found : Option Code) (behind : Meant) → (found ≡ Some code → behind ≡ Refused code) → cond b (Some this) found ≡ Some code → cond b (Refused this) behind ≡ Refused code
refuses_by true this code found behind later h = let same : this ≡ code = cc in ap (λ it. Refused it) same
refuses_by false this code found behind later h = later h

-- a code of theirs refuses, whatever stands behind them
pub code_refuses : (list others : List Reason) (rest : Meant) (code : Code) → first_code list ≡ Some code → first_refusal (list ++ others) rest ≡ Refused code
code_refuses [] others rest code h = cc
code_refuses (this ∷ list) others rest code h =
    refuses_by this.holds this.code code (first_code list) (first_refusal (list ++ others) rest) (code_refuses list others rest code) h

passes_by : (b : Bool) (this : Code) (found : Option Code) (behind later : Meant) → (found ≡ None → behind ≡ later) → cond b (Some this) found ≡ None → cond b (Refused this) behind ≡ later
passes_by true this found behind later more h = cc
passes_by false this found behind later more h = more h

-- where they have none, those behind them are left
pub code_passes : (list others : List Reason) (rest : Meant) → first_code list ≡ None → first_refusal (list ++ others) rest ≡ first_refusal others rest
code_passes [] others rest h = refl
code_passes (this ∷ list) others rest h =
    passes_by this.holds this.code (first_code list) (first_refusal (list ++ others) rest) (first_refusal others rest) (code_passes list others rest) h

none_by : (b : Bool) (this : Code) (found : Option Code) → cond b (Some this) found ≡ None → (b ≡ false) × (found ≡ None)
none_by true this found h = cc
none_by false this found h = (refl, h)

-- then none of them holds
pub no_code : (list : List Reason) → first_code list ≡ None → NoneHolds list
no_code [] h = tt
no_code (this ∷ list) h =
    let none = none_by this.holds this.code (first_code list) h in
    (none.0, no_code list none.1)

-- What the laws of this crate say.
use Rattle.std.specs.Prelude.{◌≡◌, ℕ, Bool, true, false, List}
use Rattle.gate_base.specs.declared.page.Pair.{Pair}
use Rattle.sign_cmd.specs.Names.{AreSigned}
use Rattle.sign_cmd.specs.Signing.{AnswersFirst}
use Rattle.sign_cmd.specs.declared.first.Signing.{Signing}
use Rattle.sign_cmd.specs.declared.first.Signing.TheVariants.{Signed, NoRequest, LineFailed, Memory}

-- the headers determine the names that are signed
abbrev pub NamesOnce : Type 0
NamesOnce = (headers : List Pair) (names others : List (List ℕ)) → AreSigned headers names → AreSigned headers others → others ≡ names

-- neither a failure of the line nor a lack of memory
abbrev pub is_answer : Signing → Bool
is_answer (Signed signed) = true
is_answer NoRequest = true
is_answer LineFailed = false
is_answer Memory = false

-- the bytes of the connections that wait determine the answer, unless the line fails or memory runs out
abbrev pub OneAnswer : Type 0
OneAnswer =
    (secret region : List ℕ) (waiting : List (List ℕ)) (one other : Signing) → is_answer one ≡ true → is_answer other ≡ true
    → AnswersFirst secret region waiting one → AnswersFirst secret region waiting other → other ≡ one

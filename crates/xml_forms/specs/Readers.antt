-- What readers answer, as what reading a form gives.
use Rattle.std.specs.Prelude.{ℕ, List, Result, Ok, Err}
use Rattle.std.specs.Borrow.{Bor}
use Rattle.xml_forms.specs.Forms.{Reads}

-- the value of what was found and the bytes behind it, or how many bytes were left
abbrev pub read_by : {X A : Type 0} → (X → A) → Result (X × Bor (List ℕ)) ℕ → Result (A × List ℕ) ℕ
read_by value (Ok found) = Ok (value found.0, found.1.now)
read_by value (Err left) = Err left

-- a reader whose value is a text
abbrev pub ReadsText : (List ℕ → List ℕ → Type 0) → List ℕ → Result (Bor (List ℕ) × Bor (List ℕ)) ℕ → Type 0
ReadsText form bytes result = Reads form bytes (read_by (λ text. text.now) result)

-- the bytes behind what has no value, or how many bytes were left
abbrev pub rest_read : Result (Bor (List ℕ)) ℕ → Result (Unit {0} × List ℕ) ℕ
rest_read (Ok rest) = Ok (tt, rest.now)
rest_read (Err left) = Err left

-- a reader that has no value
abbrev pub ReadsRest : (Unit {0} → List ℕ → Type 0) → List ℕ → Result (Bor (List ℕ)) ℕ → Type 0
ReadsRest form bytes result = Reads form bytes (rest_read result)

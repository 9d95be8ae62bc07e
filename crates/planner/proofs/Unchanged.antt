-- A piece is given of the file that HEAD told of alone.
use Rattle.std.specs.Prelude.{◌≡◌, ◌==◌, ℕ, if◌then◌else◌, Bool, true, false, List, length, Option, None, Some, IfSome, Result, Ok, Err, IfOk}
use Rattle.std.proofs.Common.{sym, subst}
use Rattle.swift_calls.specs.History.{History, present}
use Rattle.account_calls.specs.declared.fault.PlanFault.{PlanFault}
use Rattle.account_calls.specs.declared.fault.PlanFault.TheVariants.{Inconsistent}
use Rattle.account_calls.specs.Calls.{IsStoredAs, GivesUnchanged}
use Rattle.planner.specs.declared.reading.Found.{Found}
use Rattle.planner.specs.Reading.{GivesPieceOf, piece_end}

module _ (it : Found) (size : ℕ) (h : History) where
  abbrev IsFile : Type 0
  IsFile = IsStoredAs (present h) it.bucket it.key it.head.etag it.head.size

  by_test : (bytes : List ℕ) (t : Bool) → IsFile → IfOk {T = List ℕ} {E = PlanFault} (if t then Ok bytes else Err Inconsistent) (λ given. IsFile)
  by_test bytes true is = is
  by_test bytes false is = tt

  by_told : (told : Option (List ℕ)) → IfSome told (λ bytes. IsFile) → IfOk (piece_end told size) (λ given. IsFile)
  by_told None is = tt
  by_told (Some bytes) is = by_test bytes (length bytes == size) is

pub piece_of_file : (it : Found) (size : ℕ) (h : History) {bucket key etag : List ℕ} → bucket ≡ it.bucket → key ≡ it.key → etag ≡ it.head.etag → (told : Option (List ℕ))
    → GivesUnchanged h bucket key etag it.head.size (Ok told) → (result : Result (List ℕ) PlanFault) → result ≡ piece_end told size → GivesPieceOf h it result
piece_of_file it size h same_bucket same_key same_etag told unchanged result end observable =
    subst (λ r. IfOk r (λ bytes. IsStoredAs (present h) it.bucket it.key it.head.etag it.head.size)) (sym end) (by_told it size h told
    (subst {A = List ℕ × List ℕ × List ℕ} (λ x. IfSome told (λ bytes. IsStoredAs (present h) x.0 x.1 x.2 it.head.size)) (λ i. (same_bucket i, same_key i, same_etag i)) (unchanged observable)))

-- A container beside a bucket that is missing is cleared and deleted. Source: this profile.
use Rattle.std.specs.Prelude.{◌≡◌, ◌+◌, ℕ, Bool, true, false, bytes_eq, IsTrue, List, length, is_some, None, Result, Ok, Err, IfOk}
use Rattle.std.specs.FinMap.{entries, get, len}
use Rattle.swift_calls.specs.Account.{SwiftAccount, files}
use Rattle.swift_calls.specs.History.{History, present}
use Rattle.swift_calls.specs.declared.calls.SwiftReply.{SwiftReply}
use Rattle.swift_calls.specs.declared.calls.SwiftReply.TheVariants.{Gone, NotFound, Readers}
use Rattle.upload_records.specs.Native.{IsSettled}
use Rattle.upload_records.specs.Consistent.{IsBeside, IsThere}
use Rattle.account_calls.specs.declared.fault.PlanFault.{PlanFault}
use Rattle.account_calls.specs.declared.fault.PlanFault.TheVariants as fault
use Rattle.account_calls.specs.Puts.{Ensures}
use Rattle.leftovers.specs.Sweeping.{file_calls}

-- HEAD of a container: whether it is there
abbrev pub there_due : SwiftReply → Result Bool PlanFault
there_due (Readers readers created) = Ok true
there_due NotFound = Ok false
there_due _ = Err fault.Inconsistent

abbrev pub TellsThere : List ℕ → SwiftAccount → Bool → Type 0
TellsThere name tree told = told ≡ is_some (get tree name)

-- the same over every observable store, whether its account is consistent or not
abbrev pub SaysThere : {E : Type 0} → List ℕ → History → Result Bool E → Type 0
SaysThere name old result = IsTrue old.observable → IfOk result (λ told. told ≡ is_some (get (present old) name))

-- DELETE of a container that is there without a file
abbrev pub removed_due : SwiftReply → Result (Unit {0}) PlanFault
removed_due Gone = Ok tt
removed_due _ = Err fault.Inconsistent

-- a container beside a bucket that is missing, on a settled account
pub record IsStray (folder bucket : List ℕ) (tree : SwiftAccount) : Type 0 where
  pub settled : IsSettled tree
  pub there : IsThere tree folder
  pub beside : IsBeside folder bucket
  pub missing : get tree bucket ≡ None

-- over every observable store, consistent or not, the container is gone after a success
abbrev pub LeavesNone : {T : Type 0} → List ℕ → History → Result T PlanFault → Type 0
LeavesNone folder new result = Ensures new (λ tree. get tree folder ≡ None) result

-- and no file is left in it
pub record IsBareStray (folder bucket : List ℕ) (tree : SwiftAccount) : Type 0 where
  pub stray : IsStray folder bucket tree
  pub bare : len (files tree folder) ≡ 0

-- the container is gone, and no other one changed
pub record Removes (folder : List ℕ) (old new : SwiftAccount) (done : Unit {0}) : Type 0 where
  pub gone : get new folder ≡ None
  pub others : (name : List ℕ) → bytes_eq name folder ≡ false → get new name ≡ get old name
  pub settled : IsSettled new

-- and so many files with it
pub record ClearsSide (folder : List ℕ) (old new : SwiftAccount) (count : ℕ) : Type 0 where
  pub counted : count ≡ length (entries (files old folder))
  pub removes : Removes folder old new tt

abbrev pub clear_calls : SwiftAccount → List ℕ → ℕ
clear_calls tree folder = file_calls tree folder + 1

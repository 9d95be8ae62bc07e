-- PUT of an object, by whether its name is taken for it.
use Rattle.std.specs.Prelude.{◌≡◌, Bool, true, false}
use Rattle.std.proofs.Common.{refl}
use Rattle.swift_calls.specs.Account.{SwiftAccount}
use Rattle.swift_calls.specs.Step.{Answer, put_unless}
use Rattle.swift_calls.specs.declared.calls.SwiftReply.TheVariants.{Exists}

-- what holds of the PUT where it isn't, and of nothing done where it is
pub put_unless_by : (P : Answer → Type 0) (taken : Bool) (put : Answer) (tree : SwiftAccount) → (taken ≡ false → P put)
    → (taken ≡ true → P (record { reply = Exists; tree = tree })) → P (put_unless taken put tree)
put_unless_by P true put tree free there = there refl
put_unless_by P false put tree free there = free refl

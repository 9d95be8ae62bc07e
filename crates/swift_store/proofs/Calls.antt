-- What calls of a shelf that follow one another keep, and what is told by one.
use Rattle.std.specs.Prelude.{Result, Ok, Err}
use Rattle.std.proofs.Common.{refl, subst, ◌∙◌}
use Rattle.swift_calls.specs.Account.{SwiftAccount}
use Rattle.swift_store.specs.Shelf.{CountsStoreFaults, ShelfKeeps, ShelfModel, ShelfReads}
use Rattle.swift_store.specs.declared.faults.StoreFault.{StoreFault}
use Rattle.swift_store.specs.declared.faults.StoreFault.TheVariants.{Failed, Memory}

-- a call that was answered, and then another
pub keeps_on : {A B : Type 0} {old middle new : ShelfModel} {value : A} {result : Result B StoreFault} → ShelfKeeps old (Ok value) middle → ShelfKeeps middle result new → ShelfKeeps old result new
keeps_on {new = new} {result = result} one two = record {
  faults = subst (λ n. CountsStoreFaults n new.faults result) one.faults two.faults;
  sure = λ s. two.sure (one.sure s);
  never = λ s. two.never (one.sure s);
  observable = λ o. two.observable (one.observable o);
  told = λ o. one.told (two.told o);
}

-- whatever was answered
pub keeps_ok : {A B : Type 0} {old new : ShelfModel} {value : A} {other : B} → ShelfKeeps old (Ok value) new → ShelfKeeps old (Ok other) new
keeps_ok one = record { faults = one.faults; sure = one.sure; never = λ s failed. cc; observable = one.observable; told = one.told }

-- what is told less of it
pub reads_as : {A : Type 0} {told less : SwiftAccount → A → Type 0} {old new : ShelfModel} (result : Result A StoreFault) → ((account : SwiftAccount) (value : A) → told account value → less account value)
    → ShelfReads told old result new → ShelfReads less old result new
reads_as {old = old} (Ok value) weaker one = record { keeps = one.keeps; same = one.same; effect = λ o. weaker old.account value (one.effect o) }
reads_as (Err fault) weaker one = record { keeps = one.keeps; same = one.same; effect = one.effect }

-- a call that was not answered
pub keeps_err : {A B : Type 0} {old new : ShelfModel} (fault : StoreFault) → ShelfKeeps {A = A} old (Err fault) new → ShelfKeeps {A = B} old (Err fault) new
keeps_err Failed one = record { faults = one.faults; sure = one.sure; never = λ s failed. one.never s refl; observable = one.observable; told = one.told }
keeps_err Memory one = record { faults = one.faults; sure = one.sure; never = λ s failed. cc; observable = one.observable; told = one.told }

pub reads_err : {A B : Type 0} {told : SwiftAccount → A → Type 0} {less : SwiftAccount → B → Type 0} {old new : ShelfModel} (fault : StoreFault) → ShelfReads told old (Err fault) new → ShelfReads less old (Err fault) new
reads_err fault one = record { keeps = keeps_err fault one.keeps; same = one.same; effect = λ o. tt }

-- two calls that were answered, the second of the same account, and what follows of both
pub reads_then : {A B C : Type 0} {told : SwiftAccount → A → Type 0} {more : SwiftAccount → B → Type 0} {less : SwiftAccount → C → Type 0} {old middle new : ShelfModel} {value : A} {other : B} {last : C}
    → ShelfReads told old (Ok value) middle → ShelfReads more middle (Ok other) new → ((account : SwiftAccount) → told account value → more account other → less account last) → ShelfReads less old (Ok last) new
reads_then {more = more} {old = old} {other = other} one two both = record {
  keeps = keeps_on one.keeps (keeps_ok two.keeps);
  same = λ o. two.same (one.keeps.observable o) ∙ one.same o;
  effect = λ o. both old.account (one.effect o) (subst (λ (account : SwiftAccount). more account other) (one.same o) (two.effect (one.keeps.observable o)));
}

-- the second was not
pub reads_fault : {A B C : Type 0} {told : SwiftAccount → A → Type 0} {more : SwiftAccount → B → Type 0} {less : SwiftAccount → C → Type 0} {old middle new : ShelfModel} {value : A} (fault : StoreFault)
    → ShelfReads told old (Ok value) middle → ShelfReads more middle (Err fault) new → ShelfReads less old (Err fault) new
reads_fault fault one two = record {
  keeps = keeps_on one.keeps (keeps_err fault two.keeps);
  same = λ o. two.same (one.keeps.observable o) ∙ one.same o;
  effect = λ o. tt;
}

-- whether it was
pub reads_on : {A B : Type 0} {told : SwiftAccount → A → Type 0} {more less : SwiftAccount → B → Type 0} {old middle new : ShelfModel} {value : A} (result : Result B StoreFault) → ShelfReads told old (Ok value) middle → ShelfReads more middle result new
    → ((account : SwiftAccount) (other : B) → told account value → more account other → less account other) → ShelfReads less old result new
reads_on (Ok other) one two both = reads_then one two (λ account. both account other)
reads_on (Err fault) one two both = reads_fault fault one two

-- a call that was answered, and what follows of it
pub reads_ok : {A B : Type 0} {told : SwiftAccount → A → Type 0} {less : SwiftAccount → B → Type 0} {old new : ShelfModel} {value : A} {other : B} → ShelfReads told old (Ok value) new
    → ((account : SwiftAccount) → told account value → less account other) → ShelfReads less old (Ok other) new
reads_ok {old = old} one of = record { keeps = keeps_ok one.keeps; same = one.same; effect = λ o. of old.account (one.effect o) }

-- nothing was called
pub keeps_none : {A : Type 0} {old : ShelfModel} {value : A} → ShelfKeeps old (Ok value) old
keeps_none = record { faults = refl; sure = λ s. s; never = λ s failed. cc; observable = λ o. o; told = λ o. o }

pub reads_none : {A : Type 0} {told : SwiftAccount → A → Type 0} {old : ShelfModel} {value : A} → ((account : SwiftAccount) → told account value) → ShelfReads told old (Ok value) old
reads_none {old = old} of = record {
  keeps = keeps_none;
  same = λ o. refl;
  effect = λ o. of old.account;
}

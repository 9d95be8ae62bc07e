-- The containers of an account are swept one after another, by their names. Source: this profile.
use Rattle.std.specs.Prelude.{◌≡◌, ◌⊎◌, ◌≤◌, ◌<◌, ◌+◌, ◌^◌, ℕ, Bool, is_some, sum_by, List}
use Rattle.std.specs.List.{list_any}
use Rattle.std.specs.Ordering.{eq_by_cmp}
use Rattle.std.specs.FinMap.{get}
use Rattle.gate_base.specs.Maps.{Names, name_cmp}
use Rattle.swift_calls.specs.Account.{SwiftAccount}
use Rattle.sweep.specs.Containers.{name_calls, IsSpared}
use Rattle.leftovers.specs.Sides.{side_of}
use Rattle.sweep.specs.Swept.{TellsSwept}
use Rattle.sweep.specs.declared.account.Swept.{Swept}

-- a name is among these
abbrev pub is_among : List (List ℕ) → List ℕ → Bool
is_among names name = list_any (eq_by_cmp name_cmp name) names

-- a table has just these names
abbrev pub IsTableOf : Names Bool → List (List ℕ) → Type 0
IsTableOf table names = (name : List ℕ) → is_some (get table name) ≡ is_among names name

-- at most so many calls for the containers of these names
abbrev pub names_calls : SwiftAccount → List (List ℕ) → ℕ
names_calls tree names = sum_by (name_calls tree) names

-- ---- what is counted

-- how many files and containers went
abbrev pub count_removed : Swept → ℕ
count_removed swept = swept.segments + swept.records + swept.containers

-- no forgotten completion is counted, nor a record that got its moment
pub record CountsNoRecords (swept : Swept) : Type 0 where
  pub migrated : swept.migrated ≡ 0
  pub forgotten : swept.forgotten ≡ 0

-- what went from one container by the calls from p to q: one call for each. If anything did, a word holds its count and p together
pub record Tallies (p q : ℕ) (swept : Swept) : Type 0 where
  pub paid : p + count_removed swept ≤ q
  pub fits : (count_removed swept ≡ 0) ⊎ (p + count_removed swept < 2 ^ 64)
  pub leaves : CountsNoRecords swept

-- what went from some containers, and then from one more
abbrev pub added : Swept → Swept → Swept
added swept one = record {
  segments = swept.segments + one.segments;
  records = swept.records + one.records;
  containers = swept.containers + one.containers;
  migrated = swept.migrated;
  forgotten = swept.forgotten;
}

-- ---- what is told

-- what isn't swept stays: buckets' own containers, that of the gateway, and the records beside buckets that are there
pub record Spares (old new : SwiftAccount) : Type 0 where
  pub each : (name : List ℕ) → IsSpared old (side_of name) → get new name ≡ get old name

-- the containers of all names were swept
pub record SweepsNames (old new : SwiftAccount) (swept : Swept) : Type 0 where
  pub sweeps : TellsSwept old new swept
  pub spares : Spares old new

-- How the steps of reading the words follow one another.
use Rattle.std.proofs.Common.{◌≡◌, ◌≢◌, ◌∙◌, refl, sym, ap, subst, inl, inr, arith, ℕ, Bool, true, false, if◌then◌else◌, List, [], ◌∷◌, Option, None, Some, option_and_then, option_map, Result, Err}
use Rattle.std.proofs.lemmas.Option.{none-some, same_Some}
use Rattle.clap.specs.Matches.{first_value, subcommand_name_of}
use Rattle.clap.specs.Walk.{Row, Text, first_of, is_empty, rows_of}
use Rattle.clap.specs.Simple.{App, HasMatchesOf, is_simple, subcommand_of, subcommand_rows_of}
use Rattle.clap.specs.Faults.{fault_of, is_simple_and_free}
use Rattle.clap.specs.Kinds.{HasKind, Kinds}
use Rattle.clap.specs.Values.{kind_of}
use Rattle.clap.specs.declared.error.Error.{Error}
use Rattle.clap.specs.declared.error.kind.ErrorKind.TheVariants.{OutOfMemory}
use Rattle.clap.specs.declared.parser.matches.ArgMatches.{ArgMatches}
use Rattle.clap.specs.declared.parser.matches.Found.{Found}
use Rattle.clap.proofs.OnLiterals.{clap_on_literals}
use Rattle.clap.proofs.WalkLemmas.{first_value-rows}
use Rattle.gateway_cli.specs.Description.{gate_app}
use Rattle.gateway_cli.specs.Words.{FaultOf, Parses, ReadsWords, command_in, command_with, met_in, name_of}
use Rattle.gateway_cli.specs.declared.command.Command.{Command}
use Rattle.gateway_cli.specs.declared.read.CommandName.{CommandName}
use Rattle.gateway_cli.specs.declared.command.WordsFault.{WordsFault}
use Rattle.gateway_cli.specs.declared.command.WordsFault.TheVariants.{Refused, Memory}

-- ---- the steps

pub reads_where : (meant known : Option Command) (result : Result Command WordsFault) → meant ≡ known → ReadsWords known result → ReadsWords meant result
reads_where meant known result same reads = let P : Option Command → Type 0 = λ m. ReadsWords m result in subst P (sym same) reads

pub choice_where : {X : Type 0} (test : Bool) (this that : X) → test ≡ true → (if test then this else that) ≡ this
choice_where test this that holds = ap (λ t. if t then this else that) holds

pub choice_unless : {X : Type 0} (test : Bool) (this that : X) → test ≡ false → (if test then this else that) ≡ that
choice_unless test this that fails = ap (λ t. if t then this else that) fails

-- ---- a command by its name

pub named : (name : Text) (found : Found) (result : Result Command WordsFault) {which : CommandName} → Some which ≡ name_of name
    → ReadsWords (command_with (rows_of found) which) result → ReadsWords (command_in name (rows_of found)) result
named name found result is reads = reads_where _ _ result (ap (option_and_then (command_with (rows_of found))) (sym is)) reads

pub unnamed : (name : Text) (found : Found) → None ≡ name_of name → command_in name (rows_of found) ≡ None
unnamed name found is = ap (option_and_then (command_with (rows_of found))) (sym is)

-- two fields that are told of one value are told of both at once
both : {T A B : Type 0} (f : T → A) (g : T → B) (from : Option T) (a : A) (b : B) → option_map f from ≡ Some a → option_map (λ (p : A × B). p.1) (option_map {U = A × B} (λ t. (f t, g t)) from) ≡ Some b
    → option_map {U = A × B} (λ t. (f t, g t)) from ≡ Some (a, b)
both f g None a b first second = absurd (none-some a first)
both f g (Some t) a b first second = λ i. Some (same_Some (f t) a first i, same_Some (g t) b second i)

-- the command that was met, with what was found for it
pub met : (matches : ArgMatches) (name : Text) (found : Found) (result : Result Command WordsFault) → Some name ≡ subcommand_name_of matches → Some (rows_of found) ≡ option_map (λ p. p.1) (subcommand_rows_of matches)
    → ReadsWords (command_in name (rows_of found)) result → ReadsWords (option_and_then (λ p. command_in p.0 p.1) (subcommand_rows_of matches)) result
met matches name found result named rows reads =
    reads_where _ _ result (ap (option_and_then (λ (p : Text × List Row). command_in p.0 p.1)) (both _ _ _ name (rows_of found) (sym named) (sym rows))) reads

-- the value that is had of an option is the one that was found for it
pub given : (found : Found) (option : Text) {value : Option (List ℕ)} → value ≡ first_value found option → first_of option (rows_of found) ≡ value
given found option is = sym (is ∙ first_value-rows found option)

-- ---- what `clap` answers

gate_is_simple : is_simple gate_app ≡ true
unfolding gate_app clap_on_literals
gate_is_simple = refl

gate_is_free : is_simple_and_free gate_app ≡ true
unfolding gate_app clap_on_literals
gate_is_free = refl

pub met_where : (app : App) (words : List Text) (matches : ArgMatches) → app ≡ gate_app
    → (is_simple_and_free app ≡ true → fault_of app words ≡ [])
    → HasMatchesOf app words matches
    → met_in words ≡ subcommand_rows_of matches
unfolding met_in
met_where app words matches app_is faults has =
    let taken : fault_of gate_app words ≡ [] = sym (ap (λ a. fault_of a words) app_is) ∙ faults (ap is_simple_and_free app_is ∙ gate_is_free) in
    let met : subcommand_rows_of matches ≡ subcommand_of gate_app words = (has (ap is_simple app_is ∙ gate_is_simple)).1 ∙ ap (λ a. subcommand_of a words) app_is in
    choice_where (is_empty (fault_of gate_app words)) _ _ (ap is_empty taken) ∙ sym met

some_kind : (kinds : Kinds) (error : Error) → HasKind kinds error → kind_of error ≢ OutOfMemory → is_empty kinds ≡ false
some_kind [] error has other = elim has [ inl h ↦ absurd (other h) | inr h ↦ absurd h ]
some_kind (kind ∷ kinds) error has other = grind arith

pub met_unless : (app : App) (words : List Text) (error : Error) (fault : WordsFault) → app ≡ gate_app
    → (is_simple_and_free app ≡ true → HasKind (fault_of app words) error)
    → FaultOf (kind_of error) fault
    → Parses words (Err fault)
unfolding met_in
met_unless app words error Memory app_is faults fault_is = tt
met_unless app words error Refused app_is faults fault_is =
    let has : HasKind (fault_of gate_app words) error =
    let P : App → Type 0 = λ a. HasKind (fault_of a words) error in subst P app_is (faults (ap is_simple_and_free app_is ∙ gate_is_free)) in
    choice_unless (is_empty (fault_of gate_app words)) _ _ (some_kind _ error has fault_is)

-- The words that the help says, read.
use Rattle.std.specs.Prelude.{◌≡◌, ℕ, IsTrue, ◌-◌, ◌^◌, true, false, List, [], ◌∷◌, ◌++◌, flat_map, Some, None, codes}
use Rattle.std.specs.List.{list_all}
use Rattle.vd_base.specs.Lexical.{is_name}
use Rattle.vd_base.specs.Limits.{most_search_budget}
use Rattle.vd_cmd.specs.Commands.{form_of}
use Rattle.vd_cmd.specs.Groups.{are_new}
use Rattle.vd_cmd.specs.declared.command.Command.TheVariants.{OnFiles, Early, Host, Check}
use Rattle.vd_cmd.specs.Numbers.{number_within}
use Rattle.vd_cmd.specs.declared.command.FilesCommand.{FilesCommand}
use Rattle.vd_cmd.specs.declared.command.NeedsKind.TheVariants as needs_kind
use Rattle.vd_cmd.specs.declared.command.FilesCommand.TheVariants.{Clear, Labels, Choose, Draw, Reveals, Certify, Compile, Needs, Replay, Excuse, Depends, Influences, Column, Report}

-- the words are read as this command over files
abbrev pub AreRead : List (List ℕ) → FilesCommand → Type 0
AreRead words command = form_of words ≡ Some (OnFiles command)

-- Behind the name of each command stand names in the order of the help, each of which is taken for what the help calls it. Without more words
-- nothing more is asked for.
pub record HelpIsRead : Type 0 where
  pub clear : (source inputs : List ℕ) → AreRead (codes "clear" ∷ source ∷ inputs ∷ []) (Clear source inputs)
  pub labels : (source : List ℕ) → AreRead (codes "labels" ∷ source ∷ []) (Labels source)
  pub choose : (source : List ℕ) → AreRead (codes "choose" ∷ source ∷ []) (Choose source most_search_budget)
  pub draw : (source : List ℕ) → AreRead (codes "draw" ∷ source ∷ []) (Draw source most_search_budget)
  pub reveals : (source : List ℕ)
      → AreRead (codes "reveals" ∷ source ∷ []) (Reveals (record { source = source; host = None; budget = most_search_budget }))
  pub reveals_to_host : (source host : List ℕ) → number_within 0 (2 ^ 64 - 1) host ≡ None
      → AreRead (codes "reveals" ∷ source ∷ host ∷ []) (Reveals (record { source = source; host = Some host; budget = most_search_budget }))
  pub reveals_within : (source host word : List ℕ) (budget : ℕ) → number_within 1 most_search_budget word ≡ Some budget
      → AreRead (codes "reveals" ∷ source ∷ host ∷ word ∷ []) (Reveals (record { source = source; host = Some host; budget = budget }))
  pub compile : (source prefix : List ℕ) → AreRead (codes "compile" ∷ source ∷ prefix ∷ []) (Compile source prefix most_search_budget)
  pub early : (source prefix : List ℕ) → form_of (codes "compile" ∷ source ∷ prefix ∷ codes "early" ∷ [])
      ≡ Some (Early (record { source = source; prefix = prefix; budget = most_search_budget }))
  pub needs : (file : List ℕ) → AreRead (codes "needs" ∷ file ∷ []) (Needs (record { file = file; kind = needs_kind.Sizes; budget = most_search_budget }))
  pub needs_each : (file : List ℕ)
      → AreRead (codes "needs" ∷ file ∷ codes "each" ∷ []) (Needs (record { file = file; kind = needs_kind.Each; budget = most_search_budget }))
  pub rounds : (file : List ℕ)
      → AreRead (codes "rounds" ∷ file ∷ []) (Needs (record { file = file; kind = needs_kind.Rounds; budget = most_search_budget }))
  pub host : (program inputs deal : List ℕ) (addresses : List (List ℕ)) → form_of (codes "host" ∷ program ∷ inputs ∷ deal ∷ addresses)
      ≡ Some (Host (record { program = program; inputs = inputs; deal = deal; addresses = addresses; limit = None }))
  pub check : (program inputs deal : List ℕ) → form_of (codes "check" ∷ program ∷ inputs ∷ deal ∷ [])
      ≡ Some (Check (record { program = program; inputs = inputs; deal = deal }))
  pub certify : (source cert : List ℕ) → AreRead (codes "certify" ∷ source ∷ cert ∷ []) (Certify source cert)
  pub depends : (source first : List ℕ) (others : List (List ℕ)) → list_all is_name (first ∷ others) ≡ true → are_new (first ∷ others) ≡ true
      → AreRead (codes "depends" ∷ source ∷ (first ++ flat_map (λ other. 0x2c ∷ other) others) ∷ []) (Depends source (first ∷ others))
  pub influences : (source host : List ℕ) → AreRead (codes "influences" ∷ source ∷ host ∷ []) (Influences source host)
  pub column : (host file first : List ℕ) (columns : List (List ℕ)) → IsTrue (is_name host)
      → AreRead (codes "column" ∷ host ∷ file ∷ first ∷ columns) (Column (record { host = host; file = file; columns = first ∷ columns }))
  pub report : (source host file : List ℕ) → AreRead (codes "report" ∷ source ∷ host ∷ file ∷ [])
      (Report (record { source = source; host = host; file = file; json = false }))
  pub report_json : (source host file : List ℕ) → AreRead (codes "report" ∷ source ∷ host ∷ file ∷ codes "json" ∷ [])
      (Report (record { source = source; host = host; file = file; json = true }))
  pub excuse : (source inputs second prefix host out : List ℕ)
      → AreRead (codes "excuse" ∷ source ∷ inputs ∷ second ∷ prefix ∷ host ∷ out ∷ [])
      (Excuse (record { source = source; inputs = inputs; second = second; prefix = prefix; host = host; out = out; budget = most_search_budget }))
  pub replay : (source inputs prefix schedule : List ℕ) → AreRead (codes "replay" ∷ source ∷ inputs ∷ prefix ∷ schedule ∷ [])
      (Replay (record { source = source; inputs = inputs; prefix = prefix; schedule = schedule; messages = false; budget = most_search_budget }))
  pub messages : (source inputs prefix schedule : List ℕ)
      → AreRead (codes "replay" ∷ source ∷ inputs ∷ prefix ∷ schedule ∷ codes "messages" ∷ [])
      (Replay (record { source = source; inputs = inputs; prefix = prefix; schedule = schedule; messages = true; budget = most_search_budget }))

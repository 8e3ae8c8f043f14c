-- All hosts over their links.
use Rattle.std.proofs.Common.{◌≡◌, ℕ, IsTrue, List, ◌++◌, length, Option, Some, None, Result, Ok, Err, refl, sym, ap, ◌∙◌, subst, append_assoc, arith}
use Rattle.std.specs.Prelude.{slice_get}
use Rattle.vd_outside.specs.Sink.{SinkView}
use Rattle.vd_execution.specs.Code.{Code}
use Rattle.vd_execution.specs.Joint.{Joint, code_of}
use Rattle.vd_execution.specs.Step.{Source, Packet, need}
use Rattle.vd_execution.specs.World.{Supply, IsPrefixOf, or_zeros}
use Rattle.vd_execution.specs.Claims.{last_of}
use Rattle.vd_execution.proofs.Front.{AreItem}
use Rattle.vd_reorder.specs.Hastening.{AreHastened}
use Rattle.vd_machine.specs.declared.lists.Lists.{Lists}
use Rattle.vd_machine.specs.Kept.{at_start}
use Rattle.vd_machine.specs.Machines.{items_of, or_empty}
use Rattle.vd_link.specs.Frames.{frames}
use Rattle.vd_link.specs.Receiving.{IsBadByte}
use Rattle.vd_engine.specs.Drives.{lines}
use Rattle.vd_engine.specs.Events.{received_from, sent_to, printed}
use Rattle.vd_engine.specs.declared.engine.Ended.{Ended as Done}
use Rattle.vd_engine.specs.declared.fault.EngineFault.{EngineFault}
use Rattle.vd_engine.specs.declared.fault.EngineFault.TheVariants as fault
use Rattle.vd_distributed.specs.AllHosts.{AreDriven, AreTold}
use Rattle.vd_distributed.proofs.Told.{told}
use Rattle.vd_distributed.specs.Linked.{AreHosts, BlamesNobody, LinkedHostsTellTheSame, TakesUpTo, TellTheSame, bytes_to_come, bytes_sent}
use Rattle.vd_distributed.proofs.Driven.{EndsSo, Made, Ran, driven_ran}
use Rattle.vd_distributed.proofs.Fronts.{flat_front, front_trans, next_there, no_bad_byte, packets_front}
use Rattle.vd_distributed.proofs.Words.{AreItems, AreSound, sound_from}

-- an item of a list is one of the deal that is followed by zeros, or nothing
item_words : (source : Source) (o : Option (List ℕ)) → AreItem (or_zeros source o) → AreItem (or_empty o)
item_words source None all = λ place. omega arith
item_words source (Some xs) all = all

module _ (s : Supply) (j : Joint) (n : ℕ) (codes : ℕ → Code) (lists : ℕ → Lists) (come went : ℕ → ℕ → List ℕ) (hosts : AreHosts s j n codes)
    (supplied : (h : ℕ) (source : Source) (i : ℕ) → s h source i ≡ items_of (lists h) source i)
    (ran : (h : ℕ) → Made (lists h) (at_start (codes h)) (come h) (went h))
    (linked : (a b : ℕ) → IsPrefixOf (come b a) (went a b)) where
  items : (h : ℕ) → AreItems (lists h)
  items h source i =
      item_words source (items_of (lists h) source i) (subst (λ (o : Option (List ℕ)). AreItem (or_zeros source o)) (supplied h source i) (hosts.deal.words h source i))

  pub sound : (h : ℕ) → AreSound (ran h).events (ran h).state
  sound h = sound_from (lists h) (items h) (at_start (codes h)) (λ r. omega arith) (hosts.numbers h) (ran h).steps (ran h).events (ran h).state (ran h).reached

  -- what came to b from a, as far as it is told, is a prefix of the packets of a
  stream : (a b : ℕ) (rest : List ℕ) → come b a ≡ frames (received_from a (ran b).events) ++ rest
      → (zs : List (List ℕ)) × (received_from a (ran b).events ++ zs ≡ sent_to b (ran a).events) × (more : List ℕ) × (rest ++ more ≡ frames zs)
  stream a b rest is =
      let l = linked a b in
      let w = (ran a).sent b in
      let r = frames (received_from a (ran b).events) in
      let all : r ++ (rest ++ (l.0 ++ w.0)) ≡ frames (sent_to b (ran a).events) =
      sym (append_assoc r rest (l.0 ++ w.0)) ∙ ap (λ q. q ++ (l.0 ++ w.0)) (sym is) ∙ sym (append_assoc (come b a) l.0 w.0) ∙ ap (λ q. q ++ w.0) l.1 ∙ w.1 in
      let f = packets_front (received_from a (ran b).events) (sent_to b (ran a).events) (rest ++ (l.0 ++ w.0)) ((sound b).received a) ((sound a).sent b) all in
      (f.0, f.1, l.0 ++ w.0, f.2)

  pub driven : AreDriven s codes lists (λ h. (ran h).events) (λ h. (ran h).state)
  driven = record {
    supplied = supplied;
    steps = λ h. (ran h).steps;
    reached = λ h. (ran h).reached;
    linked = λ a b. let c = (ran b).came a in let f = stream a b c.0 (sym c.1) in (f.0, f.1);
  }

  pub tells : AreTold s j (λ h. (ran h).events) (λ h. (ran h).state)
  tells = told s j n codes lists (λ h. (ran h).events) (λ h. (ran h).state) hosts.well hosts.hastened driven

  pub never_bad : (h host offset byte : ℕ) (count : ℕ) → need (ran h).state ≡ Packet host count → (rest : List ℕ) → come h host ≡ frames (received_from host (ran h).events) ++ rest
      → (place next : ℕ) → IsBadByte 0x56 count place next offset byte rest → ⊥
  never_bad h host offset byte count needs rest is place next bad =
      let f = stream host h rest is in
      no_bad_byte count place next offset byte rest f.2 f.0 f.3
      (λ z after e. tells.counted h host count z needs
      (ap (λ l. slice_get l (length (received_from host (ran h).events))) (sym f.1 ∙ ap (λ l. received_from host (ran h).events ++ l) e) ∙ next_there (received_from host (ran h).events) after z)) bad

module _ (s : Supply) (j : Joint) (n : ℕ) (codes : ℕ → Code) (lists : ℕ → Lists) (come went : ℕ → ℕ → List ℕ) (ob on : ℕ → SinkView) (result : ℕ → Result Done EngineFault)
    (hosts : AreHosts s j n codes)
    (supplied : (h : ℕ) (source : Source) (i : ℕ) → s h source i ≡ items_of (lists h) source i)
    (ran : (h : ℕ) → Ran (lists h) (at_start (codes h)) (come h) (went h) (ob h) (on h) (result h))
    (linked : (a b : ℕ) → IsPrefixOf (come b a) (went a b)) where
  abbrev made : (h : ℕ) → Made (lists h) (at_start (codes h)) (come h) (went h)
  made h = (ran h).made

  told_all : AreTold s j (λ h. (made h).events) (λ h. (made h).state)
  told_all = tells s j n codes lists come went hosts supplied made linked

  blames_at : (h : ℕ) (r : Result Done EngineFault) → EndsSo (come h) (lists h) (made h).events (made h).state (ob h) (on h) r → BlamesNobody r
  blames_at h (Ok done) e = tt
  blames_at h (Err (fault.Peer host)) e = tt
  blames_at h (Err fault.Write) e = tt
  blames_at h (Err (fault.BadFrame host offset byte)) e = never_bad s j n codes lists come went hosts supplied made linked h host.0 offset byte e.0 e.1 e.2 e.3 e.4 _ e.5
  blames_at h (Err (fault.Unequal left right)) e = told_all.equal h left right e
  blames_at h (Err (fault.ShortInput cursor count)) e = tt
  blames_at h (Err (fault.ShortDeal kind cursor count)) e = tt
  blames_at h (Err (fault.EndOfLink host)) e = tt

  writes_at : (h : ℕ) (r : Result Done EngineFault) → EndsSo (come h) (lists h) (made h).events (made h).state (ob h) (on h) r → IsTrue (on h).told
      → TakesUpTo (ob h) (on h) (lines (last_of s j h).printed) r
  writes_at h (Ok done) e t = e.1 t ∙ ap (λ (l : List ℕ). (ob h).taken ++ lines l) (told_all.all_printed h e.0)
  writes_at h (Err cause) e t =
      let w = (ran h).written t in
      (w.0, front_trans w.0 (lines (printed (made h).events)) (lines (last_of s j h).printed) w.1 (flat_front _ (printed (made h).events) (last_of s j h).printed (told_all.prints h)), w.2)

  joined : TellTheSame s j ob on result
  joined = record { written = λ h t. writes_at h (result h) (ran h).ends t; blames = λ h. blames_at h (result h) (ran h).ends }

-- no exchange leads from a code to itself
pub own_codes : (n : ℕ) (j : Joint) → AreHastened n j (λ h. code_of h j)
own_codes n j = record { each = λ h. (0, refl); others = λ h le. refl }

pub linked_hosts_tell_the_same : LinkedHostsTellTheSame
linked_hosts_tell_the_same s j n codes lists before now ob on result hosts l =
    joined s j n codes lists (λ h p. bytes_to_come (before h p)) (λ h p. bytes_sent (before h p) (now h p)) ob on result hosts l.supplied
    (λ h. driven_ran (lists h) (at_start (codes h)) (before h) (now h) (ob h) (on h) (result h) (l.told h) (l.drives h)) l.linked

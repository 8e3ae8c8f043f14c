-- What running the hosts of a program as children comes to.
use Rattle.std.specs.Prelude.{◌≡◌, ◌++◌, ◌∷◌, [], ℕ, List, length, take, slice_get, Some, Result, Ok, Err}
use Rattle.vd_base.specs.HostSets.{host}
use Rattle.vd_outside.specs.Spawner.{SpawnerView}
use Rattle.vd_host_children.specs.Reading.{Reads}
use Rattle.vd_host_children.specs.Starting.{Begins}
use Rattle.vd_host_children.specs.declared.fault.ChildrenFault.{ChildrenFault}
use Rattle.vd_host_children.specs.declared.fault.ChildrenFault.TheVariants as fault

-- the hosts with these words were started one after the other, as the children with these numbers
pub data Started (program : List ℕ) (start : SpawnerView) : List (List (List ℕ)) → List ℕ → SpawnerView → Type 0 where
  NoneStarted : Started program start [] [] start
  OneStarted : (hosts : List (List (List ℕ))) (children : List ℕ) (words : List (List ℕ)) (child : ℕ) (before now : SpawnerView)
      → Started program start hosts children before → Begins program words (host (length children)) before now (Ok child)
      → Started program start (hosts ++ words ∷ []) (children ++ child ∷ []) now

-- these children were read one after the other, and printed these words
pub data ReadToEnd (start : SpawnerView) : List ℕ → List (List ℕ) → SpawnerView → Type 0 where
  NoneRead : ReadToEnd start [] [] start
  OneRead : (children : List ℕ) (printed : List (List ℕ)) (child : ℕ) (words : List ℕ) (before now : SpawnerView)
      → ReadToEnd start children printed before → Reads child (host (length printed)) before now (Ok words)
      → ReadToEnd start (children ++ child ∷ []) (printed ++ words ∷ []) now

-- a host did not begin, or there was no memory for the number of its child
pub data StopsAtStart (program : List ℕ) (hosts : List (List (List ℕ))) (start end : SpawnerView) : ChildrenFault → Type 0 where
  NotBegun : (children : List ℕ) (words : List (List ℕ)) (now : SpawnerView) (cause : ChildrenFault) → Started program start (take (length children) hosts) children now
      → slice_get hosts (length children) ≡ Some words → Begins program words (host (length children)) now end (Err cause)
      → StopsAtStart program hosts start end cause
  NoNumber : (children : List ℕ) (words : List (List ℕ)) (child : ℕ) (now : SpawnerView) → Started program start (take (length children) hosts) children now
      → slice_get hosts (length children) ≡ Some words → Begins program words (host (length children)) now end (Ok child)
      → StopsAtStart program hosts start end fault.Memory

abbrev pub StartsAll : List ℕ → List (List (List ℕ)) → SpawnerView → SpawnerView → Result (List ℕ) ChildrenFault → Type 0
StartsAll program hosts start end (Ok children) = Started program start hosts children end
StartsAll program hosts start end (Err cause) = StopsAtStart program hosts start end cause

-- a child was not read as it should, or there was no memory for its words
pub data StopsAtRead (children : List ℕ) (start end : SpawnerView) : ChildrenFault → Type 0 where
  NotReadWell : (printed : List (List ℕ)) (child : ℕ) (now : SpawnerView) (cause : ChildrenFault) → ReadToEnd start (take (length printed) children) printed now
      → slice_get children (length printed) ≡ Some child → Reads child (host (length printed)) now end (Err cause)
      → StopsAtRead children start end cause
  NoPlace : (printed : List (List ℕ)) (child : ℕ) (words : List ℕ) (now : SpawnerView) → ReadToEnd start (take (length printed) children) printed now
      → slice_get children (length printed) ≡ Some child → Reads child (host (length printed)) now end (Ok words)
      → StopsAtRead children start end fault.Memory

abbrev pub ReadsAll : List ℕ → SpawnerView → SpawnerView → Result (List (List ℕ)) ChildrenFault → Type 0
ReadsAll children start end (Ok printed) = ReadToEnd start children printed end
ReadsAll children start end (Err cause) = StopsAtRead children start end cause

-- A child is started for each host in order, and then each is read to its end and finished, in order. `hosts` has the words
-- of each host's command line.
pub data RunsChildren (program : List ℕ) (hosts : List (List (List ℕ))) (start end : SpawnerView) : Result (List (List ℕ)) ChildrenFault → Type 0 where
  AllEnded : (children : List ℕ) (printed : List (List ℕ)) (now : SpawnerView) → Started program start hosts children now → ReadToEnd now children printed end
      → RunsChildren program hosts start end (Ok printed)
  NotAllStarted : (cause : ChildrenFault) → StopsAtStart program hosts start end cause → RunsChildren program hosts start end (Err cause)
  NotAllRead : (children : List ℕ) (now : SpawnerView) (cause : ChildrenFault) → Started program start hosts children now → StopsAtRead children now end cause
      → RunsChildren program hosts start end (Err cause)

-- What is promised of the words of a command line.
use Rattle.std.specs.Prelude.{◌≡◌, ℕ, List, Option, Some, None, false}
use Rattle.vd_outside.specs.Files.{FilesView}
use Rattle.vd_outside.specs.Marks.{MarksView}
use Rattle.vd_outside.specs.Sink.{SinkView}
use Rattle.vd_outside.specs.Spawner.{SpawnerView}
use Rattle.vd_cmd_host.specs.Hosts.{NetsView}
use Rattle.vd_cmd.specs.Own.{own_text_of}
use Rattle.vd_cmd.specs.declared.command.Command.{Command}
use Rattle.vd_cmd_plan.specs.Lines.{Says, status_line}
use Rattle.vd_cmd_plan.specs.Runs.{Prints}
use Rattle.vd_cmd_plan.specs.declared.status.Status.{Status}
use Rattle.vd_top.specs.Answers.{KeepsChoice, KeepsColumn, KeepsCompiled, KeepsDeal, KeepsDrawing, KeepsKeyed, KeepsLabels, KeepsProof, KeepsReport, KeepsReveals}
use Rattle.vd_top.specs.Compiled.{KeepsStored, StoresForm}
use Rattle.vd_top.specs.Early.{EarlyByWords, EarlyForm}
use Rattle.vd_top.specs.Counts.{CountedForm, KeepsCount, counts_packets, counts_packets_by}
use Rattle.vd_top.specs.Commands.{CompletesWords, RunsForm, RunsWords}
use Rattle.vd_top.specs.Headline.{KeepsAccepted, KeepsDependence, KeepsExcuse, KeepsHeadline, KeepsInfluence, KeepsNeeds, KeepsTrial, ShowsForm}
use Rattle.vd_top.specs.Hosts.{ChecksForm, ChecksWords, KeysForm, KeysWords, MarksForm, MarksWords, PlaysForm, PlaysWords, ReportsWords, SealsWords, ServesWords, SpawnsForm, SpawnsWords}
use Rattle.vd_top.specs.Hosts.{marks_by, may_mark, speaks, spawns, spawns_by}
use Rattle.vd_top.specs.declared.outside.Outside.{Outside}

-- the objects that a run uses, and how many packets it says that hosts sent in this process, each before it and after it
pub record Around : Type 0 where
  pub files : FilesView × FilesView
  pub out : SinkView × SinkView
  pub err : SinkView × SinkView
  pub marks : MarksView × MarksView
  pub nets : NetsView × NetsView
  pub spawner : SpawnerView × SpawnerView
  pub packets : Option ℕ × Option ℕ

-- the same of the objects themselves, by what is seen of each
abbrev pub around : {F M O E N S : Type 0} → (before now : Outside F M O E N S) → (F → FilesView) → (M → MarksView) → (O → SinkView) → (E → SinkView)
    → (N → NetsView) → (S → SpawnerView) → Around
around before now files marks out err nets spawner = record {
  files = (files before.files, files now.files);
  out = (out before.out, out now.out);
  err = (err before.err, err now.err);
  marks = (marks before.marks, marks now.marks);
  nets = (nets before.net, nets now.net);
  spawner = (spawner before.spawner, spawner now.spawner);
  packets = (before.packets, now.packets);
}

-- What is done by the form of the words, which words that are no command do not have: what each command promises of itself, before
-- anything is concluded from it. Each of the first ten fields says nothing of forms but its own.
pub record Does (form : Option Command) (o : Around) (status : Status) : Type 0 where
  -- the whole of the plan of a command on files, or the refusal of words without a form
  pub runs : RunsForm form o.files.0 o.files.1 o.out.0 o.out.1 status
  -- what was printed is true of what was fetched
  pub shows : ShowsForm form o.files.0 o.out.0 o.out.1 status
  -- so is what was stored
  pub stores : StoresForm form o.files.0 o.files.1 o.out.0 o.out.1 status
  -- the packets are those of the run that `replay` shows
  pub counts : CountedForm form o.files.0 o.packets.1 status
  -- `compile` with the word `early`
  pub early : EarlyForm form o.files.0 o.files.1 o.out.0 o.out.1 status
  -- `host`
  pub host : PlaysForm form o.files.0 o.files.1 o.marks.0 o.marks.1 o.nets.0 o.nets.1 o.out.0 o.out.1 status
  -- its deal's mark, where something went out behind the greetings
  pub used_once : MarksForm form o.files.0 o.files.1 o.marks.0 o.marks.1 o.nets.0 o.nets.1
  -- `check`
  pub checked : ChecksForm form o.files.0 o.files.1 o.marks.0 o.marks.1 o.out.0 o.out.1 status
  -- `deal` by a key of 32 bytes
  pub keyed : KeysForm form o.files.0 o.files.1 o.marks.0 o.marks.1 o.out.0 o.out.1 status
  -- `run`
  pub hosts : SpawnsForm form o.files.0 o.files.1 o.out.0 o.out.1 o.spawner.0 o.spawner.1 status
  -- nothing is said of how it ended
  pub err_untouched : o.err.1 ≡ o.err.0
  -- who uses no marks, starts no programs and counts no packets
  pub marks_untouched : marks_by form ≡ false → o.marks.1 ≡ o.marks.0
  pub spawner_untouched : spawns_by form ≡ false → o.spawner.1 ≡ o.spawner.0
  pub packets_untouched : counts_packets_by form ≡ false → o.packets.1 ≡ o.packets.0

-- What holds of all words: the line of the status is said; `host`, `check` and `deal` by a key of 32 bytes alone use marks, `run` alone starts
-- programs, and `replay` alone counts packets.
pub record Leaves (words : List (List ℕ)) (o : Around) (status : Status) : Type 0 where
  -- The error stream gets the line of the status, whole unless that stream fails.
  pub says : Says (status_line status) o.err.0 o.err.1
  -- No command but `host`, `check` and `deal` by a key of 32 bytes uses marks.
  pub marks_untouched : may_mark words ≡ false → o.marks.1 ≡ o.marks.0
  -- No command but `run` starts a program.
  pub spawner_untouched : spawns words ≡ false → o.spawner.1 ≡ o.spawner.0
  -- No command but `replay` counts packets.
  pub packets_untouched : counts_packets words ≡ false → o.packets.1 ≡ o.packets.0

-- What `run` promises of its words, clause by clause. Each field says nothing of other commands than its own.
pub record Keeps (words : List (List ℕ)) (o : Around) (status : Status) : Type 0 where
  -- Each command has a plan: which files it fetches, in order, and what it answers, as a function of what they hold. With status 0 the
  -- output has gained exactly the bytes of that answer, and the stored files are exactly those of the plan, each whole. After a
  -- refusal the output is untouched; after a write fault it has a prefix. Every other status comes exactly if, or only if,
  -- docs/FORMATS.md says; words that fit no command are refused.
  pub runs : RunsWords words o.files.0 o.files.1 o.out.0 o.out.1 status
  -- With status 0 `replay` has printed the report of a world. There is one joint code, of which each host ran its part, on the inputs,
  -- the consistent deals and the schedule of the files. Each host has printed a prefix of the source's output to it, no compared words
  -- differ, and no packet has a wrong length. If all have ended, each has printed all of it; else some host can step, or lacks an
  -- input or an item. The joint code is that of the program that is run for the source, at the valid list of protocols of least cost
  -- under the least labels, the first of these in order.
  pub headline : KeepsHeadline words o.files.0 o.out.0 o.out.1 status
  -- With status 0 `excuse` has stored a deal under which the second inputs give the host the view that it had of the first inputs
  -- under the first deal. Each file has the version, the name and the keys of the file that was read. It has printed what the other
  -- host sends, which is the same in both runs. The source has two hosts and no commitment at its choice, and the host knows the same
  -- words of both inputs.
  pub excused : KeepsExcuse words o.files.0 o.files.1 o.out.0 o.out.1 status
  -- With status 0 `depends` has printed the hosts whose inputs are reached from the outputs to one of the hosts that were named. Two
  -- families of inputs that agree on theirs, and on the words that are declassified to a named host, give it the same outputs. At
  -- every valid list of protocols they bring it the same words in clear.
  pub dependence : KeepsDependence words o.files.0 o.out.0 o.out.1 status
  -- With status 0 `influences` has printed the hosts whose inputs are reached from the outputs to the host, and again those that are
  -- reached through endorsements only. Two families of inputs that agree on the printed hosts give the host the same outputs. So do
  -- two that agree on those that are printed once, and endorse the same words. Each of these has an integrity that acts for that of
  -- the host.
  pub influence : KeepsInfluence words o.files.0 o.out.0 o.out.1 status
  -- With status 0 `needs` has printed what the hosts of a source take at its choice. Every consistent deal of the printed sizes
  -- suffices for all inputs, under every schedule. If both blocks of each branch take equally many items, each deal that suffices has
  -- these sizes. Of the program of a host it has printed what that host takes at most. `rounds` has printed how many packets, words and
  -- bytes each host sends each other one: under every schedule it sends no more, and no fewer than the least if it has ended.
  pub needs : KeepsNeeds words o.files.0 o.out.0 o.out.1 status
  -- With status 0 `labels` has printed a line for each slot, with its label under the least labelling: it satisfies all flow rules and
  -- checks, and every labelling that does is above it.
  pub labelled : KeepsLabels words o.files.0 o.out.0 o.out.1 status
  -- With status 0 `certify` has printed a number that some valid list of protocols costs and none is below, or that no list is valid,
  -- whoever made the certificate.
  pub certified : KeepsProof words o.files.0 o.out.0 o.out.1 status
  -- With status 0 `choose` has printed the valid list of least cost, the first of these in order, with that cost. With the certificate
  -- that it stored `certify` prints the same cost.
  pub chosen : KeepsChoice words o.files.0 o.files.1 o.out.0 o.out.1 status
  -- With status 0 `draw` has printed the drawing of that list. The costs of its rows, each as often as it is done, add up to the cost
  -- of the list.
  pub drawn : KeepsDrawing words o.files.0 o.out.0 o.out.1 status
  -- With status 0 `reveals` has printed a line for each word that the host, or each host, gets in clear at that list and did not have,
  -- in program order. The line has where the word is made, its name, the protocol that it comes from, and how often it comes at most.
  -- It says whether the word is an index or a guard, whether who is on the way sees it too, in which branches it comes, and what for.
  -- Two families of inputs that agree on a host, and bring it the same such words, bring it the same words in clear: the lines leave
  -- nothing out.
  pub revealed : KeepsReveals words o.files.0 o.out.0 o.out.1 status
  -- With status 0 `compile` has printed that list with its cost, and stored for each host the text of its part of the joint code, with
  -- the names of all hosts and the digest of the source and the choice.
  pub compiled : KeepsCompiled words o.files.0 o.files.1 o.out.0 o.out.1 status
  -- Each of these files is short enough to be read, and is read as one program: that of its host, with the code of which *headline*
  -- speaks.
  pub stored : KeepsStored words o.files.0 o.files.1 o.out.0 o.out.1 status
  -- With status 0 `compile` with the word `early` has printed the same list. Careful exchanges of neighbours lead from the joint code
  -- to another one, in which neighbouring packets from one host to another are joined, up to 16 words. The file of each host is its
  -- part of that code. Its plan also hashes the name of this order.
  pub early : EarlyByWords words o.files.0 o.files.1 o.out.0 o.out.1 status
  -- With status 0 `column` has printed the section of its host with the rows of words that the named columns give. It is read back as
  -- an inputs file that gives this host these words in order, and the others none.
  pub column : KeepsColumn words o.files.0 o.out.0 o.out.1 status
  -- `report` has printed the words that a host printed, each with the names of the outputs that can have told it.
  pub report : KeepsReport words o.files.0 o.out.0 o.out.1 status
  -- With status 0 the files that `deal` stored are the texts of the deals of as many hosts as were asked for. All identities hold, and
  -- `replay` refuses none of them.
  pub dealt : KeepsDeal words o.files.0 o.files.1 status
  -- So it is with a key of 32 bytes. Each file then also names the dealing, and has the keys of the links of its host.
  pub dealt_by_key : KeepsKeyed words o.files.0 o.files.1 status
  -- `trial` never refuses its own source for its text, names, kinds or limits. With status 0 it has printed the cost of the choice,
  -- and a report of which *headline* holds, on its own inputs, its own deal and the schedule `all`. By that report every host has
  -- ended.
  pub trial : KeepsTrial words o.files.0 o.out.0 o.out.1 status
  -- Good files give `replay` status 0 or out of memory, if the budget is enough and nothing outside fails. The budget is enough if no
  -- more valid prefixes than it have a `low` of at most the least cost.
  pub accepted : KeepsAccepted words o.files.0 o.files.1 o.out.0 o.out.1 status
  -- If nothing outside fails, a good source with good inputs gives status 0 or out of memory. It says nothing of `deal` by a key and
  -- of `compile` with `early`.
  pub complete : CompletesWords words o.files.0 o.files.1 o.out.0 o.out.1 status
  -- `host` has read the program, the inputs and the deal of a host, or refused them by the first cause in order. Then it listened,
  -- said so, met each peer in order and greeted it. It took the steps of its machine on the words that came, wrote each printed word
  -- at once, and said that it ended. No wait was longer than its words allow, every fault has its cause, and each link was handed
  -- back.
  pub host : PlaysWords words o.files.0 o.files.1 o.marks.0 o.marks.1 o.nets.0 o.nets.1 o.out.0 o.out.1 status
  -- Suppose that the marks report what is taken, and nothing had gone out over a sealed link. If anything may have gone out over one
  -- after the greetings, the files had a deal of version 2 whose mark was not there before. It is there now, and names the dealing,
  -- the host and the plan.
  pub used_once : MarksWords words o.files.0 o.files.1 o.marks.0 o.marks.1 o.nets.0 o.nets.1
  -- Suppose that the net reports the links that come back, and nothing had gone out over them. With a deal of version 2 all that was
  -- sent over each of these is a prefix of one hello and of records. The hello's nonce is made of the number of the connection and of
  -- 32 bytes that were drawn for this run. The records have numbers from 0 on, and keys that both hellos make of the key that the deal
  -- has for this link.
  pub sealed : SealsWords words o.files.0 o.files.1 o.marks.0 o.nets.0 o.nets.1
  -- `check` reads the program, the inputs and the deal of a host, and looks for the mark of a deal of version 2. It has printed, for
  -- each list, how many inputs or items the code takes at most and how many there are, the plan, and whether the deal was used. With a
  -- used deal it ends with status 33, else with that of the first list that is short. If none is, no run of `host` over these files
  -- ends for want of an input or item.
  pub checked : ChecksWords words o.files.0 o.files.1 o.marks.0 o.marks.1 o.out.0 o.out.1 status
  -- `deal` by a key of 32 bytes has read it from its file, or drawn it in one call. It has stored the files that this key makes of the
  -- counts, or nothing: the file was shorter or could not be read, or nothing was drawn.
  pub keyed : KeysWords words o.files.0 o.files.1 o.marks.0 o.marks.1 o.out.0 o.out.1 status
  -- `run` has compiled as `compile` does and stored the hosts' files. It has started one child for each host in order, with the stated
  -- words, not before the one before it listens. It has read each to its end and reported what it printed, or stopped at the first
  -- fault, by its cause.
  pub hosts : SpawnsWords words o.files.0 o.files.1 o.out.0 o.out.1 o.spawner.0 o.spawner.1 status
  -- Suppose that the files of a host are good, with a deal of version 1, that each peer's greeting comes whole on a link at its
  -- address, and that all comes that the host's code asks for. Then `host` ends with status 0 or out of memory, unless something
  -- outside fails.
  pub served : ServesWords words o.files.0 o.files.1 o.nets.0 o.nets.1 o.out.0 o.out.1 status
  -- With status 0 `replay` has counted the packets that the hosts sent to one another in the run of which *headline* speaks.
  pub counted : KeepsCount words o.files.0 o.packets.1 status
  -- If `compile` ends well on the files, and each child says what hosts say and has status 0, `run` ends with status 0 or out of
  -- memory, unless something outside fails.
  pub reported : ReportsWords words o.files.0 o.files.1 o.out.0 o.out.1 o.spawner.0 o.spawner.1 status
  -- How it ended is said, and what the command does not use stays as it was.
  pub leaves : Leaves words o status

-- What `start` promises. Words that ask for a text of the program's own get that text, and no file is asked for; all other
-- words are run.
pub record Starts (words : List (List ℕ)) (o : Around) (status : Status) : Type 0 where
  -- The lone words `--help`, `--version`, `-h` and `-V`, and `--help` or `-h` after the name of a command, print their text and do
  -- nothing else.
  pub own : (text : List ℕ) → own_text_of words ≡ Some text → Prints text o.out.0 o.out.1 status × (o.files.1 ≡ o.files.0)
  pub ran : own_text_of words ≡ None → Keeps words o status
  -- No command but `host` uses the network.
  pub net_untouched : speaks words ≡ false → o.nets.1 ≡ o.nets.0
  pub leaves : Leaves words o status

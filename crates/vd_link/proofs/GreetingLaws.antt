-- A greeting that is awaited has no fault.
use Rattle.std.proofs.Common.{arith, ◌≡◌, ◌+◌, ℕ, List, [], ◌∷◌, ◌++◌, length, refl, sym, ◌∙◌, append_assoc, length-append, inl, inr}
use Rattle.vd_link.specs.Frames.{greeting}
use Rattle.vd_link.specs.Laws.{FaultsExcludeGreetings}
use Rattle.vd_link.specs.Sessions.{Ends, Greeting, NamesWrong, wanted_greeting}
use Rattle.vd_link.specs.declared.faults.GreetFault.TheVariants as greet_fault
use Rattle.vd_link.proofs.Streams.{front_same}

record SameParts (plan other : List ℕ) (from to peer me : ℕ) : Type 0 where
  pub plans : plan ≡ other
  pub senders : from ≡ peer
  pub receivers : to ≡ me

-- two greetings at the front of one stream are the same
parts_same : (plan other : List ℕ) (from to peer me : ℕ) (rest behind : List ℕ) → length plan ≡ 32 → length other ≡ 32
    → greeting plan from to ++ rest ≡ greeting other peer me ++ behind → SameParts plan other from to peer me
parts_same plan other from to peer me rest behind long other_long is =
    let tails : (plan ++ (from ∷ to ∷ [])) ++ rest ≡ (other ++ (peer ∷ me ∷ [])) ++ behind = cc in
    let split = front_same plan other ((from ∷ to ∷ []) ++ rest) ((peer ∷ me ∷ []) ++ behind) (long ∙ sym other_long)
    (sym (append_assoc plan (from ∷ to ∷ []) rest) ∙ tails ∙ append_assoc other (peer ∷ me ∷ []) behind) in
    let plans : plan ≡ other = split.0 in
    let hosts : from ∷ to ∷ rest ≡ peer ∷ me ∷ behind = split.1 in
    record { plans = plans; senders = cc; receivers = cc }

whole : (ends : Ends) (rest : List ℕ) → length ends.plan ≡ 32 → length (wanted_greeting ends ++ rest) ≡ 36 + length rest
whole ends rest long = omega (arith, long, length-append (wanted_greeting ends) rest, length-append ends.plan (ends.peer ∷ ends.me ∷ []))

came_same : (ends : Ends) (rest plan : List ℕ) (from to : ℕ) → length ends.plan ≡ 32 → Greeting (wanted_greeting ends ++ rest) plan from to → SameParts ends.plan plan ends.peer ends.me from to
came_same ends rest plan from to long came = parts_same ends.plan plan ends.peer ends.me from to rest came.rest long came.digest came.came

not_named : (ends : Ends) (from to wanted named : ℕ) → SameParts ends.plan ends.plan ends.peer ends.me from to → NamesWrong ends from to wanted named → ⊥
not_named ends from to wanted named same (inl wrong) = wrong.differ (sym same.senders)
not_named ends from to wanted named same (inr wrong) = wrong.1.differ (sym same.receivers)

pub no_greet_fault : FaultsExcludeGreetings
no_greet_fault ends rest greet_fault.Peer long differs is = differs refl
no_greet_fault ends rest (greet_fault.BadFrame offset byte) long differs (inl at) = at.1.wrong (let begins = at.1.begins in let same : byte ≡ 0x47 = cc in same)
no_greet_fault ends rest (greet_fault.BadFrame offset byte) long differs (inr at) = at.1.wrong (let begins = at.1.begins in let same : byte ≡ 1 = cc in same)
no_greet_fault ends rest (greet_fault.WrongProgram ours theirs) long differs is =
    let same = came_same ends rest theirs is.2.0 is.2.1 long is.2.2 in
    is.1 (sym same.plans)
no_greet_fault ends rest (greet_fault.WrongHost wanted named) long differs is = not_named ends is.0 is.1 wanted named (came_same ends rest ends.plan is.0 is.1 long is.2) is.3
no_greet_fault ends rest greet_fault.End long differs is = let short = is.0 in let size = whole ends rest long in omega (arith, short, size)

-- What the program says of itself.
use Rattle.std.specs.Prelude.{ℕ, Bool, ◌||◌, List, [], ◌∷◌, Option, Some, None, if◌then◌else◌, codes}
use Rattle.std.specs.Str.{bytes_eq}

unfoldable pub help_text : List ℕ
help_text = codes "1. check:   viaduct labels SOURCE says whether a secret goes where it may not; viaduct clear SOURCE INPUTS runs it in clear\n2. choose:  viaduct choose SOURCE prints the cheapest cryptography; viaduct compile SOURCE PREFIX stores each host's program\n3. deal:    viaduct needs SOURCE prints five numbers; viaduct deal with these, draw and PREFIX stores a deal for each host\n4. run:     viaduct host PREFIX.i.host INPUTS PREFIX.i.deal ADDR.. runs host i on its own machine\n\nViaduct reads one program over several hosts' secrets: it runs it in clear, finds its least labels, and chooses\nthe cheapest protocols for it. It makes the programs of all hosts, and runs them: under any schedule in one process,\neach host on its own machine, or all hosts as processes on one machine. It makes the dealer's files of correlated\nwords, and says whose inputs a host's outputs depend on.\n\nTo write a source:\n  viaduct clear SOURCE INPUTS   run SOURCE in clear on one machine, and print each host's words\n  viaduct labels SOURCE         print the least label of each slot of SOURCE's let-normal form\n  viaduct choose SOURCE [BUDGET]\n                                print the cheapest protocol of each slot, and store SOURCE.cert, which shows that;\n                                the search opens at most BUDGET prefixes, 1 to 200000\n  viaduct draw SOURCE [BUDGET]  print the choice of choose as a drawing, an SVG file: where each value is computed, what\n                                goes between hosts and how, and what it costs\n\nTo run it:\n  viaduct compile SOURCE PREFIX [early] [BUDGET]\n                                print the cheapest protocols, as choose does, and store the program of each host i\n                                as PREFIX.i.host; with early, in an order in which hosts wait for fewer rounds, and\n                                which all hosts of a run must have\n  viaduct needs FILE [each] [BUDGET]\n                                print the five numbers with which deal makes enough for the source FILE; with each,\n                                how many inputs and items each host and each two hosts take at most; where FILE is\n                                the program of a host, how many that host takes\n  viaduct rounds FILE [BUDGET]  print what a run of the source FILE costs, before anything is dealt: how many packets, words\n                                and bytes go from each host to each other one; where FILE is the program of a host,\n                                what goes out from that host\n  viaduct column HOST FILE NAME[*FACTOR] ..\n                                print the section of HOST in an inputs file: of each row of the CSV file FILE, which has\n                                a header, the words of these columns, each times its FACTOR\n  viaduct deal HOSTS OWN MULS ANDS PAIRS KEY PREFIX\n                                store PREFIX.i.deal for each host i: OWN own words, and with each other host\n                                MULS and ANDS products and PAIRS pairs, all made from the number KEY; or, where KEY is\n                                draw, or @ and the name of a file of 32 bytes, from a key that is drawn or read, for a\n                                run whose links are sealed\n  viaduct check PROGRAM INPUTS DEAL\n                                look at the files of a host before it is run, and mark nothing: print its plan, how many\n                                inputs and items it takes at most and how many there are, and whether DEAL was used\n  viaduct host PROGRAM INPUTS DEAL ADDR..\n                                run the host whose program the file PROGRAM is, over sockets, with its own part of\n                                INPUTS and its deal; there is one ADDR for each other host, in host order, where the\n                                earlier host of the two listens; print listening, then each word, then ended; links\n                                are sealed, and DEAL is used once, where the dealer's KEY was draw or a file, and\n                                else neither encrypted nor authenticated: put them into a tunnel\n  viaduct host-within SECONDS PROGRAM INPUTS DEAL ADDR..\n                                run a host as host does, with no wait for another one longer than SECONDS, 1 to 604800\n  viaduct report SOURCE HOST FILE [json]\n                                print the words of HOST with their names, one a line, or with json as one JSON object;\n                                FILE has what host printed there, or the report of replay or run\n\nTo trust it:\n  viaduct certify SOURCE CERT   print what the certificate CERT shows: the least cost, or that there is none\n  viaduct reveals SOURCE [HOST] [BUDGET]\n                                print a line for each word that comes to HOST, or to each host, in clear at the choice of\n                                choose: where it is made, its name, where it comes from, how often at most, and what for\n  viaduct depends SOURCE HOSTS  print the hosts whose inputs can bear on the outputs to HOSTS, a name or several with\n                                commas between them, outside of what is declassified to each of these\n  viaduct influences SOURCE HOST\n                                print the hosts whose inputs can bear on HOST's outputs at all, and then those\n                                of them whose inputs can do so through endorsements alone\n  viaduct excuse SOURCE INPUTS INPUTS2 PREFIX HOST OUT [BUDGET]\n                                where HOST cannot tell INPUTS2 from INPUTS, store deals OUT.i.deal under which INPUTS2\n                                look to it as INPUTS do under PREFIX.i.deal, and print what the other host sends it\n\nTo try it on one machine:\n  viaduct replay SOURCE INPUTS PREFIX SCHEDULE [messages] [BUDGET]\n                                run the programs of all hosts on INPUTS and the deals PREFIX.i.deal in one process,\n                                step by step as SCHEDULE says, and print how each host stands and what it printed;\n                                with messages also the words that were sent on each link\n  viaduct run SOURCE INPUTS PREFIX SELF PORT\n                                compile SOURCE as compile does, and run each host i on this machine as a process of\n                                the program SELF, on INPUTS and the deal PREFIX.i.deal; the hosts meet at the ports\n                                from PORT on, 1024 to 65520; print what each host printed\n  viaduct gen N                 print a source of N coordinates, 1 to 100: whether two hosts' points are near\n  viaduct trial N               choose protocols for the source of gen and replay it, on inputs and a deal of its own, and\n                                print the cost of the choice and how each host stands\n\nOf the program itself:\n  viaduct COMMAND --help, -h    print what stands here of COMMAND alone\n  viaduct --help, -h            print this text\n  viaduct --version, -V         print the version\n\nSOURCE, INPUTS, CERT, SCHEDULE, PROGRAM and DEAL are files. A run that does not end well writes a line that begins\n'viaduct: ' to standard error, and ends with the status that belongs to it. At a terminal, and elsewhere where the\nvariable VIADUCT_REASONS is set, more lines say where in a file the fault is, or why the system refused a file, a\nprogram or a link.\n\nstatuses:\n  0   the run ended well\n  1   there was no memory left\n  2   wrong usage: the words fit no command\n  3   a file could not be read\n  4   a file or the output could not be written\n  5   a file is too long\n  6   the text of SOURCE is wrong\n  7   a name, a kind or a size of SOURCE is wrong\n  8   in SOURCE something goes where it may not\n  9   no choice of protocols is valid for SOURCE\n  10  the search needs more than BUDGET prefixes\n  11  the text of INPUTS is wrong\n  12  the text of a deal is wrong\n  13  the text of SCHEDULE is wrong\n  14  the text of PROGRAM is wrong\n  15  the text of CERT is wrong\n  16  an item of the deals breaks its identity\n  17  CERT is not accepted\n  18  a link to another host failed\n  19  a peer sent an unexpected byte\n  20  two words that must be equal differ\n  21  a peer's program was compiled from another source or choice\n  22  a host other than the expected one connected\n  23  INPUTS has too few numbers\n  24  DEAL has too few items\n  25  a link ended before all words had come\n  26  the process of a host did not end well\n  27  no host of SOURCE has the name HOST\n  28  SOURCE does not have exactly two hosts\n  29  the choice of protocols for SOURCE has a commitment\n  31  a run takes more dealt items than there are\n  32  HOST can tell INPUTS2 from INPUTS\n  33  DEAL was used before\n  34  the file of a key has fewer than 32 bytes\n  35  the table in FILE does not give words\n  36  FILE does not tell what HOST printed\n"

unfoldable pub version_text : List ℕ
version_text = codes "viaduct 0.2.0\n"

-- a word in its long or its short form
abbrev pub is_either : List ℕ → List ℕ → List ℕ → Bool
is_either word long short = bytes_eq word long || bytes_eq word short

-- the form of each command, and what it does
unfoldable pub help_of_clear : List ℕ
help_of_clear = codes "viaduct clear SOURCE INPUTS\n  run SOURCE in clear on one machine, and print each host's words\n"

unfoldable pub help_of_labels : List ℕ
help_of_labels = codes "viaduct labels SOURCE\n  print the least label of each slot of SOURCE's let-normal form\n"

unfoldable pub help_of_choose : List ℕ
help_of_choose = codes "viaduct choose SOURCE [BUDGET]\n  print the cheapest protocol of each slot, and store SOURCE.cert, which shows that;\n  the search opens at most BUDGET prefixes, 1 to 200000\n"

unfoldable pub help_of_draw : List ℕ
help_of_draw = codes "viaduct draw SOURCE [BUDGET]\n  print the choice of choose as a drawing, an SVG file: where each value is computed, what\n  goes between hosts and how, and what it costs\n"

unfoldable pub help_of_compile : List ℕ
help_of_compile = codes "viaduct compile SOURCE PREFIX [early] [BUDGET]\n  print the cheapest protocols, as choose does, and store the program of each host i\n  as PREFIX.i.host; with early, in an order in which hosts wait for fewer rounds, and\n  which all hosts of a run must have\n"

unfoldable pub help_of_needs : List ℕ
help_of_needs = codes "viaduct needs FILE [each] [BUDGET]\n  print the five numbers with which deal makes enough for the source FILE; with each,\n  how many inputs and items each host and each two hosts take at most; where FILE is\n  the program of a host, how many that host takes\n"

unfoldable pub help_of_rounds : List ℕ
help_of_rounds = codes "viaduct rounds FILE [BUDGET]\n  print what a run of the source FILE costs, before anything is dealt: how many packets, words\n  and bytes go from each host to each other one; where FILE is the program of a host,\n  what goes out from that host\n"

unfoldable pub help_of_report : List ℕ
help_of_report = codes "viaduct report SOURCE HOST FILE [json]\n  print the words of HOST with their names, one a line, or with json as one JSON object;\n  FILE has what host printed there, or the report of replay or run\n"

unfoldable pub help_of_column : List ℕ
help_of_column = codes "viaduct column HOST FILE NAME[*FACTOR] ..\n  print the section of HOST in an inputs file: of each row of the CSV file FILE, which has\n  a header, the words of these columns, each times its FACTOR\n"

unfoldable pub help_of_deal : List ℕ
help_of_deal = codes "viaduct deal HOSTS OWN MULS ANDS PAIRS KEY PREFIX\n  store PREFIX.i.deal for each host i: OWN own words, and with each other host\n  MULS and ANDS products and PAIRS pairs, all made from the number KEY; or, where KEY is\n  draw, or @ and the name of a file of 32 bytes, from a key that is drawn or read, for a\n  run whose links are sealed\n"

unfoldable pub help_of_check : List ℕ
help_of_check = codes "viaduct check PROGRAM INPUTS DEAL\n  look at the files of a host before it is run, and mark nothing: print its plan, how many\n  inputs and items it takes at most and how many there are, and whether DEAL was used\n"

unfoldable pub help_of_host : List ℕ
help_of_host = codes "viaduct host PROGRAM INPUTS DEAL ADDR..\n  run the host whose program the file PROGRAM is, over sockets, with its own part of\n  INPUTS and its deal; there is one ADDR for each other host, in host order, where the\n  earlier host of the two listens; print listening, then each word, then ended; links\n  are sealed, and DEAL is used once, where the dealer's KEY was draw or a file, and\n  else neither encrypted nor authenticated: put them into a tunnel\n"

unfoldable pub help_of_host_within : List ℕ
help_of_host_within = codes "viaduct host-within SECONDS PROGRAM INPUTS DEAL ADDR..\n  run a host as host does, with no wait for another one longer than SECONDS, 1 to 604800\n"

unfoldable pub help_of_certify : List ℕ
help_of_certify = codes "viaduct certify SOURCE CERT\n  print what the certificate CERT shows: the least cost, or that there is none\n"

unfoldable pub help_of_reveals : List ℕ
help_of_reveals = codes "viaduct reveals SOURCE [HOST] [BUDGET]\n  print a line for each word that comes to HOST, or to each host, in clear at the choice of\n  choose: where it is made, its name, where it comes from, how often at most, and what for\n"

unfoldable pub help_of_depends : List ℕ
help_of_depends = codes "viaduct depends SOURCE HOSTS\n  print the hosts whose inputs can bear on the outputs to HOSTS, a name or several with\n  commas between them, outside of what is declassified to each of these\n"

unfoldable pub help_of_influences : List ℕ
help_of_influences = codes "viaduct influences SOURCE HOST\n  print the hosts whose inputs can bear on HOST's outputs at all, and then those\n  of them whose inputs can do so through endorsements alone\n"

unfoldable pub help_of_excuse : List ℕ
help_of_excuse = codes "viaduct excuse SOURCE INPUTS INPUTS2 PREFIX HOST OUT [BUDGET]\n  where HOST cannot tell INPUTS2 from INPUTS, store deals OUT.i.deal under which INPUTS2\n  look to it as INPUTS do under PREFIX.i.deal, and print what the other host sends it\n"

unfoldable pub help_of_replay : List ℕ
help_of_replay = codes "viaduct replay SOURCE INPUTS PREFIX SCHEDULE [messages] [BUDGET]\n  run the programs of all hosts on INPUTS and the deals PREFIX.i.deal in one process,\n  step by step as SCHEDULE says, and print how each host stands and what it printed;\n  with messages also the words that were sent on each link\n"

unfoldable pub help_of_run : List ℕ
help_of_run = codes "viaduct run SOURCE INPUTS PREFIX SELF PORT\n  compile SOURCE as compile does, and run each host i on this machine as a process of\n  the program SELF, on INPUTS and the deal PREFIX.i.deal; the hosts meet at the ports\n  from PORT on, 1024 to 65520; print what each host printed\n"

unfoldable pub help_of_gen : List ℕ
help_of_gen = codes "viaduct gen N\n  print a source of N coordinates, 1 to 100: whether two hosts' points are near\n"

unfoldable pub help_of_trial : List ℕ
help_of_trial = codes "viaduct trial N\n  choose protocols for the source of gen and replay it, on inputs and a deal of its own, and\n  print the cost of the choice and how each host stands\n"

-- the form of a command with which a source is tried on one machine, and what it does
unfoldable pub help_to_try : List ℕ → Option (List ℕ)
help_to_try word =
    if bytes_eq word (codes "replay") then Some help_of_replay
    else if bytes_eq word (codes "run") then Some help_of_run
    else if bytes_eq word (codes "gen") then Some help_of_gen
    else if bytes_eq word (codes "trial") then Some help_of_trial
    else None

-- the same, also of a command with which what a source does is shown to others
unfoldable pub help_to_trust : List ℕ → Option (List ℕ)
help_to_trust word =
    if bytes_eq word (codes "certify") then Some help_of_certify
    else if bytes_eq word (codes "reveals") then Some help_of_reveals
    else if bytes_eq word (codes "depends") then Some help_of_depends
    else if bytes_eq word (codes "influences") then Some help_of_influences
    else if bytes_eq word (codes "excuse") then Some help_of_excuse
    else help_to_try word

-- the same, also of a command with which hosts are run on machines of their own
unfoldable pub help_to_run : List ℕ → Option (List ℕ)
help_to_run word =
    if bytes_eq word (codes "compile") then Some help_of_compile
    else if bytes_eq word (codes "needs") then Some help_of_needs
    else if bytes_eq word (codes "rounds") then Some help_of_rounds
    else if bytes_eq word (codes "column") then Some help_of_column
    else if bytes_eq word (codes "deal") then Some help_of_deal
    else if bytes_eq word (codes "check") then Some help_of_check
    else if bytes_eq word (codes "host") then Some help_of_host
    else if bytes_eq word (codes "host-within") then Some help_of_host_within
    else if bytes_eq word (codes "report") then Some help_of_report
    else help_to_trust word

-- the form of a command, and what it does
unfoldable pub help_of : List ℕ → Option (List ℕ)
help_of word =
    if bytes_eq word (codes "clear") then Some help_of_clear
    else if bytes_eq word (codes "labels") then Some help_of_labels
    else if bytes_eq word (codes "choose") then Some help_of_choose
    else if bytes_eq word (codes "draw") then Some help_of_draw
    else help_to_run word

-- what a lone word asks for, or one behind a command
abbrev pub own_text_of : List (List ℕ) → Option (List ℕ)
own_text_of (word ∷ []) = if is_either word (codes "--help") (codes "-h") then Some help_text else if is_either word (codes "--version") (codes "-V") then Some version_text else None
own_text_of (command ∷ word ∷ []) = if is_either word (codes "--help") (codes "-h") then help_of command else None
own_text_of words = None

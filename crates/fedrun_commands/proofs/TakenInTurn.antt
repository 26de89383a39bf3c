-- Report files one after the other: what was taken so far, and why the first that isn't taken isn't.
use Rattle.std.proofs.Common.{◌≡◌, ℕ, ◌+◌, ◌<◌, List, [], ◌∷◌, ◌++◌, length, take, drop, get_or, Option, ap, sym, subst, ◌∙◌, append_assoc}
use Rattle.std.proofs.lemmas.List.{map-append, take_more, take-append-drop}
use Rattle.std.specs.Borrow.{Bor}
use Rattle.recorder_reports.specs.declared.report.Report.{Report}
use Rattle.files_reports.specs.declared.file_digests.FileDigests.{FileDigests}
use Rattle.fedrun_reports.specs.Files.{IsOfFederate}
use Rattle.fedrun_words.specs.declared.fault.Fault.{Fault}
use Rattle.fedrun_files.specs.Answers.{Answer, Answers, given}
use Rattle.fedrun_files.specs.Contents.{Contents, AreBytesOf}
use Rattle.fedrun_files.specs.declared.reading.Sources.{Sources}
use Rattle.fedrun_files.proofs.FaultsInTurn.{unread_after}
use Rattle.fedrun_files.proofs.InTurn.{answered_in_turn}
use Rattle.fedrun_commands.specs.declared.fault.NodeFault.{NodeFault}
use Rattle.fedrun_commands.specs.ReportFiles.{Names, AreFederateFiles, no_file, one_more, all_given, IsFederateFile, IsCoordinatorFileFault, coordinator_unread, coordinator_refused, IsFederateFileFault, federate_unread, federate_refused, IsFirstFileFault}

-- a name, what stands before it and what stands behind it
pub around : (names : Names) (i : ℕ) (d : Bor (List ℕ)) → i < length names → names ≡ take i names ++ get_or names i d ∷ drop (i + 1) names
around names i d below =
    sym (take-append-drop (i + 1) names) ∙ ap (λ l. l ++ drop (i + 1) names) (take_more names i d below)
    ∙ append_assoc (take i names) (get_or names i d ∷ []) (drop (i + 1) names)

-- a report that is read from a file's bytes is that of the file
pub file_taken : (known : Option (List ℕ)) (digests : FileDigests) (s : Sources) (bytes read : List ℕ) (before after : List Report) → AreBytesOf known bytes → read ≡ bytes →
    (report : Report) × IsOfFederate digests s report read × (after ≡ before ++ report ∷ []) →
    (report : Report) × IsFederateFile digests s known report × (after ≡ before ++ report ∷ [])
file_taken known digests s bytes read before after are same (report, spelled, grown) =
    (report, (bytes, are, subst (λ b. IsOfFederate digests s report b) same spelled), grown)

-- no file was taken
pub none_taken : (contents : Contents) (digests : FileDigests) (s : Sources) (reports : List Report) → reports ≡ [] → AreFederateFiles contents digests s [] reports
none_taken contents digests s reports none = subst (λ r. AreFederateFiles contents digests s [] r) (sym none) no_file

-- one more was taken
pub one_taken : (contents here : Contents) (digests : FileDigests) (s : Sources) (names next : Names) (name : Bor (List ℕ)) (reports more : List Report) → here ≡ contents →
    next ≡ names ++ name ∷ [] → AreFederateFiles contents digests s names reports →
    (report : Report) × IsFederateFile digests s (here name.now) report × (more ≡ reports ++ report ∷ []) → AreFederateFiles contents digests s next more
one_taken contents here digests s names next name reports more same is files (report, file, grown) =
    subst (λ n. AreFederateFiles contents digests s n more) (sym is)
    (subst (λ r. AreFederateFiles contents digests s (names ++ name ∷ []) r) (sym grown)
    (one_more name report files (subst (λ (known : Contents). IsFederateFile digests s (known name.now) report) same file)))

-- and one more was given
pub one_given : (old mid after : Option (List Answer)) (names next : Names) (name : Bor (List ℕ)) → next ≡ names ++ name ∷ [] → Answers old mid (all_given names) →
    Answers mid after (given name.now ∷ []) → Answers old after (all_given next)
one_given old mid after names next name is before asked =
    subst (λ all. Answers old after all) (sym (ap all_given is ∙ map-append (λ (n : Bor (List ℕ)). given n.now) names (name ∷ [])))
    (answered_in_turn old mid after (all_given names) (given name.now ∷ []) before asked)

module _ {first all : List Answer → Type 0} (come : (answers : List Answer) → first answers → all answers) where
  -- a fault of the coordinator's file, where others were asked for before
  pub coordinator_fault_after : (digests : FileDigests) (name : Bor (List ℕ)) (contents : Contents) (fault : Fault NodeFault)
      → IsCoordinatorFileFault digests name contents first fault → IsCoordinatorFileFault digests name contents all fault
  coordinator_fault_after digests name contents fault (coordinator_unread unread) = coordinator_unread (unread_after come _ _ _ _ unread)
  coordinator_fault_after digests name contents fault (coordinator_refused asked why is stands) = coordinator_refused (come _ asked) why is stands

  -- of a federate's
  pub federate_fault_after : (digests : FileDigests) (s : Sources) (reports : List Report) (name : Bor (List ℕ)) (contents : Contents) (fault : Fault NodeFault)
      → IsFederateFileFault digests s reports name contents first fault → IsFederateFileFault digests s reports name contents all fault
  federate_fault_after digests s reports name contents fault (federate_unread unread) = federate_unread (unread_after come _ _ _ _ unread)
  federate_fault_after digests s reports name contents fault (federate_refused asked why is stands) = federate_refused (come _ asked) why is stands

-- of the first of federates' files that isn't taken
pub first_fault_after : {first all : List Answer → Type 0} (come : (answers : List Answer) → first answers → all answers) (digests : FileDigests) (s : Sources)
    (names : Names) (contents : Contents) (fault : Fault NodeFault) → IsFirstFileFault digests s names contents first fault
    → IsFirstFileFault digests s names contents all fault
first_fault_after come digests s names contents fault stands = record {
  taken = stands.taken;
  name = stands.name;
  later = stands.later;
  in_order = stands.in_order;
  reports = stands.reports;
  are_taken = stands.are_taken;
  refused = federate_fault_after (λ last asked. come (all_given stands.taken ++ last) asked) digests s stands.reports stands.name contents fault stands.refused;
}

-- the first that isn't taken, behind those that are
pub is_first_fault : (old mid after : Option (List Answer)) (digests : FileDigests) (s : Sources) (taken : Names) (name : Bor (List ℕ)) (later names : Names)
    (reports : List Report) (contents : Contents) (fault : Fault NodeFault) → names ≡ taken ++ name ∷ later → AreFederateFiles contents digests s taken reports
    → Answers old mid (all_given taken) → IsFederateFileFault digests s reports name contents (Answers mid after) fault
    → IsFirstFileFault digests s names contents (Answers old after) fault
is_first_fault old mid after digests s taken name later names reports contents fault is files asked stands = record {
  taken = taken;
  name = name;
  later = later;
  in_order = is;
  reports = reports;
  are_taken = files;
  refused = federate_fault_after (λ last come. answered_in_turn old mid after (all_given taken) last asked come) digests s reports name contents fault stands;
}

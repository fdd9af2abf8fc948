-- Rows with all their parameters make commands.
use Rattle.std.proofs.Common.{◌≡◌, ◌≢◌, true, ◌&&◌, Option, Some, None, IsTrue, refl}
use Rattle.std.specs.Prelude.{IsSome, is_some}
use Rattle.std.proofs.lemmas.Bool.{and_parts, false≢true}
use Rattle.script_lines.specs.declared.row.Row.{Row}
use Rattle.script_lines.specs.declared.row.Row.TheVariants.{CipsoAddPass, CipsoAddTrans, CalipsoAddPass, CipsoDel, CalipsoDel, CipsoList, CalipsoList, MapAdd, MapDel, MapList, AcceptOn, AcceptOff, UnlblAdd, UnlblDel, UnlblList, ReceiverAdd, ReceiverDel, RangeAdd, RangeDel, PairAdd, PairDel, MgmtVersion, MgmtProtocols, CalipsoAddTrans, Reading}
use Rattle.script_lines.specs.declared.fields.Fields.{Fields}
use Rattle.script_lines.specs.Form.{Edition, with_labels, with_ranges, with_translations, form_of}
use Rattle.script_lines.specs.Said.{is_complete}
use Rattle.script_lines.specs.Command.{given, command_of}

given_some : {X Y : Type 0} (value : Option X) (use_of : X → Option Y) → is_some value ≡ true → ((x : X) → IsSome (use_of x)) → IsSome (given value use_of)
given_some None use_of some makes = absurd (false≢true some)
given_some (Some x) use_of some makes = makes x

pub complete_makes : (edition : Edition) (row : Row) (fields : Fields) → row ≢ Reading → IsTrue (is_complete (form_of edition row).slots fields) → IsSome (command_of row fields)
complete_makes edition CipsoAddPass f ne h = let p0 = and_parts (is_some f.doi) (is_some f.tags && true) h in let p1 = and_parts (is_some f.tags) true p0.1 in given_some f.doi _ p0.0 (λ x. given_some f.tags _ p1.0 (λ x. refl))
complete_makes edition CipsoAddTrans f ne h = let p0 = and_parts (is_some f.doi) (is_some f.tags && (is_some f.levels && (true && true))) h in let p1 = and_parts (is_some f.tags) (is_some f.levels && (true && true)) p0.1 in let p2 = and_parts (is_some f.levels) (true && true) p1.1 in let p3 = and_parts (true) true p2.1 in given_some f.doi _ p0.0 (λ x. given_some f.tags _ p1.0 (λ x. given_some f.levels _ p2.0 (λ x. refl)))
complete_makes edition CalipsoAddPass f ne h = let p0 = and_parts (is_some f.doi) true h in given_some f.doi _ p0.0 (λ x. refl)
complete_makes edition CipsoDel f ne h = let p0 = and_parts (is_some f.doi) true h in given_some f.doi _ p0.0 (λ x. refl)
complete_makes edition CalipsoDel f ne h = let p0 = and_parts (is_some f.doi) true h in given_some f.doi _ p0.0 (λ x. refl)
complete_makes edition CipsoList f ne h = refl
complete_makes edition CalipsoList f ne h = refl
complete_makes edition MapAdd f ne h = let p0 = and_parts (is_some f.domain) (true && (is_some f.protocol && true)) h in let p1 = and_parts (true) (is_some f.protocol && true) p0.1 in let p2 = and_parts (is_some f.protocol) true p1.1 in given_some f.domain _ p0.0 (λ x. given_some f.protocol _ p2.0 (λ x. refl))
complete_makes with_labels MapDel f ne h = let p0 = and_parts (is_some f.domain) true h in given_some f.domain _ p0.0 (λ x. refl)
complete_makes with_ranges MapDel f ne h = let p0 = and_parts (is_some f.domain) true h in given_some f.domain _ p0.0 (λ x. refl)
complete_makes with_translations MapDel f ne h = let p0 = and_parts (is_some f.domain) (true && true) h in let p1 = and_parts (true) true p0.1 in given_some f.domain _ p0.0 (λ x. refl)
complete_makes edition MapList f ne h = refl
complete_makes edition AcceptOn f ne h = refl
complete_makes edition AcceptOff f ne h = refl
complete_makes edition UnlblAdd f ne h = let p0 = and_parts (is_some f.interface) (is_some f.prefix && (is_some f.label && true)) h in let p1 = and_parts (is_some f.prefix) (is_some f.label && true) p0.1 in let p2 = and_parts (is_some f.label) true p1.1 in given_some f.interface _ p0.0 (λ x. given_some f.prefix _ p1.0 (λ x. given_some f.label _ p2.0 (λ x. refl)))
complete_makes edition UnlblDel f ne h = let p0 = and_parts (is_some f.interface) (is_some f.prefix && true) h in let p1 = and_parts (is_some f.prefix) true p0.1 in given_some f.interface _ p0.0 (λ x. given_some f.prefix _ p1.0 (λ x. refl))
complete_makes edition UnlblList f ne h = refl
complete_makes edition ReceiverAdd f ne h = let p0 = and_parts (is_some f.address) (is_some f.home && (is_some f.level && true)) h in let p1 = and_parts (is_some f.home) (is_some f.level && true) p0.1 in let p2 = and_parts (is_some f.level) true p1.1 in given_some f.address _ p0.0 (λ x. given_some f.home _ p1.0 (λ x. given_some f.level _ p2.0 (λ x. refl)))
complete_makes edition ReceiverDel f ne h = let p0 = and_parts (is_some f.address) true h in given_some f.address _ p0.0 (λ x. refl)
complete_makes edition RangeAdd f ne h = let p0 = and_parts (is_some f.interface) (is_some f.range && true) h in let p1 = and_parts (is_some f.range) true p0.1 in given_some f.interface _ p0.0 (λ x. given_some f.range _ p1.0 (λ x. refl))
complete_makes edition RangeDel f ne h = let p0 = and_parts (is_some f.interface) true h in given_some f.interface _ p0.0 (λ x. refl)
complete_makes edition PairAdd f ne h = let p0 = and_parts (is_some f.four) (is_some f.six && true) h in let p1 = and_parts (is_some f.six) true p0.1 in given_some f.four _ p0.0 (λ x. given_some f.six _ p1.0 (λ x. refl))
complete_makes edition PairDel f ne h = let p0 = and_parts (is_some f.four) true h in given_some f.four _ p0.0 (λ x. refl)
complete_makes edition MgmtVersion f ne h = refl
complete_makes edition MgmtProtocols f ne h = refl
complete_makes edition CalipsoAddTrans f ne h = let p0 = and_parts (is_some f.doi) (is_some f.levels && (true && true)) h in let p1 = and_parts (is_some f.levels) (true && true) p0.1 in let p2 = and_parts (true) true p1.1 in given_some f.doi _ p0.0 (λ x. given_some f.levels _ p1.0 (λ x. refl))
complete_makes edition Reading f ne h = absurd (ne refl)

-- The laws of src/laws.rt under their names, for the crates above.
pub use Rattle.ripso_border.proofs.Rows.{a_worked_packet_goes_in, no_labelled_packet_goes_in, a_worked_packet_comes_out}
pub use Rattle.ripso_border.proofs.Back.{label_comes_back}
pub use Rattle.ripso_border.proofs.Hop.{first_hop_has_the_local_label}
pub use Rattle.ripso_border.proofs.OutSteps.{packets_have_one_verdict}
pub use Rattle.ripso_border.proofs.Short.{written_packets_are_short}
pub use Rattle.ripso_border.proofs.Roomy.{what_goes_out_has_room}

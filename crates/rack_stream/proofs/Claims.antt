-- What is fed is answered line by line: the proofs of the claims. Assumes nothing.
use Rattle.line_stream.proofs.Claim.{streams_out, answers_each, cuts_no_text, uses_some}
use Rattle.rack_script.specs.Script.{rack_program}
use Rattle.rack_script.proofs.Fits.{rack_texts_fit, rack_tells}
use Rattle.rack_stream.specs.Claims.{RackStreams, RackLive, RackNeverCut, RackGoesOn}

pub rack_streams : RackStreams
rack_streams = streams_out rack_program rack_texts_fit rack_tells

pub rack_live : RackLive
rack_live = answers_each rack_program rack_texts_fit rack_tells

pub rack_never_cut : RackNeverCut
rack_never_cut = cuts_no_text rack_program rack_texts_fit rack_tells

pub rack_goes_on : RackGoesOn
rack_goes_on = uses_some rack_program

use Rattle.std.proofs.Common.{◌∙◌, ap, codes}
use Rattle.clap.specs.Matches.{found_of}
use Rattle.clap.specs.Walk.{rows_of}
use Rattle.gateway_cli.specs.Words.{command_with, presign_command_by_options, serve_command_by_options, session_command_by_options, sign_command_by_options, sweep_command_by_options, trial_command_by_options}
use Rattle.gateway_cli.proofs.WordsLemmas.{reads_where, given}
use Rattle.gateway_cli.proofs.read.command_with.Goals as goal

pub returns-in-Session-clause-reads : goal.returns-in-Session-clause-reads
returns-in-Session-clause-reads c =
    let found = found_of c.args.found.now in
    let region = given found (codes "region") c.get_str.ensures in
    let least = given found (codes "least-part") c.get_str-in-Session.ensures in
    let largest = given found (codes "largest-body") c.get_str-in-Session-2.ensures in
    let extended = given found (codes "extended") c.get_str-in-Session-3.ensures in
    reads_where _ _ c.session_command_by_options.result
    (ap (command_with (rows_of found)) c.in-Session.is ∙ (λ i. session_command_by_options (region i) (least i) (largest i) (extended i)))
    c.session_command_by_options.ensures.reads

pub returns-in-Serve-clause-reads : goal.returns-in-Serve-clause-reads
returns-in-Serve-clause-reads c =
    let found = found_of c.args.found.now in
    let region = given found (codes "region") c.get_str-in-Serve.ensures in
    let connections = given found (codes "connections") c.get_str-in-Serve-2.ensures in
    let least = given found (codes "least-part") c.get_str-in-Serve-3.ensures in
    let largest = given found (codes "largest-body") c.get_str-in-Serve-4.ensures in
    let extended = given found (codes "extended") c.get_str-in-Serve-5.ensures in
    reads_where _ _ c.serve_command_by_options.result
    (ap (command_with (rows_of found)) c.in-Serve.is ∙ (λ i. serve_command_by_options (region i) (connections i) (least i) (largest i) (extended i)))
    c.serve_command_by_options.ensures.reads

pub returns-in-Sign-clause-reads : goal.returns-in-Sign-clause-reads
returns-in-Sign-clause-reads c =
    let found = found_of c.args.found.now in
    let key = given found (codes "key") c.get_str-in-Sign.ensures in
    let region = given found (codes "region") c.get_str-in-Sign-2.ensures in
    reads_where _ _ c.sign_command_by_options.result
    (ap (command_with (rows_of found)) c.in-Sign.is ∙ (λ i. sign_command_by_options (key i) (region i)))
    c.sign_command_by_options.ensures.reads

pub returns-in-Presign-clause-reads : goal.returns-in-Presign-clause-reads
returns-in-Presign-clause-reads c =
    let found = found_of c.args.found.now in
    let key = given found (codes "key") c.get_str-in-Presign.ensures in
    let region = given found (codes "region") c.get_str-in-Presign-2.ensures in
    let expires = given found (codes "expires") c.get_str-in-Presign-3.ensures in
    reads_where _ _ c.presign_command_by_options.result
    (ap (command_with (rows_of found)) c.in-Presign.is ∙ (λ i. presign_command_by_options (key i) (region i) (expires i)))
    c.presign_command_by_options.ensures.reads

pub returns-in-Sweep-clause-reads : goal.returns-in-Sweep-clause-reads
returns-in-Sweep-clause-reads c =
    let found = found_of c.args.found.now in
    let before = given found (codes "forget-before") c.get_str-in-Sweep.ensures in
    reads_where _ _ c.sweep_command_by_options.result
    (ap (command_with (rows_of found)) c.in-Sweep.is ∙ (λ i. sweep_command_by_options (before i)))
    c.sweep_command_by_options.ensures.reads

pub returns-in-Trial-clause-reads : goal.returns-in-Trial-clause-reads
returns-in-Trial-clause-reads c =
    let found = found_of c.args.found.now in
    let number = given found (codes "number") c.get_str-in-Trial.ensures in
    let requests = given found (codes "requests") c.get_str-in-Trial-2.ensures in
    reads_where _ _ c.trial_command_by_options.result
    (ap (command_with (rows_of found)) c.in-Trial.is ∙ (λ i. trial_command_by_options (number i) (requests i)))
    c.trial_command_by_options.ensures.reads

use Rattle.std.proofs.Common.{rules}
use Rattle.mongo_meta.specs.Client.{client_of}
use Rattle.mongo_meta.proofs.client_metadata.ClientMetadata.client_document.Goals as goal

pub returns-in_ok-document_in-in-None-clause-document : goal.returns-in_ok-document_in-in-None-clause-document
unfolding client_of
returns-in_ok-document_in-in-None-clause-document c = search rules

pub returns-in_ok-document_in-in-None-clause-fits : goal.returns-in_ok-document_in-in-None-clause-fits
unfolding client_of
returns-in_ok-document_in-in-None-clause-fits c = search rules

pub returns-in_err-document_in-in-None-clause-refused : goal.returns-in_err-document_in-in-None-clause-refused
unfolding client_of
returns-in_err-document_in-in-None-clause-refused c = search rules

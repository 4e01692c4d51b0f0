mod Results
